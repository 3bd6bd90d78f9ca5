-- The loop of `relabel_chain`, and the last node of the chain that moves.
use mathlib.Core.Path.{◌≡◌, refl}
use mathlib.Core.List.{List}
use Prim.Native.Nat.{ℕ, suc, ◌+◌, ◌-◌, ◌<◌}
use native.Mathlib.Omega.{arith}
use lib.ListN.{length, get_or, set}
use Rattle.definitions.specs.Groups.{relabelled}
use Rattle.laws.proofs.Lists.{Each, each_head, each_tail}
use Rattle.aggregates.specs.JoinChoice.{at}
use Rattle.aggregates.specs.JoinState.{Chains, Moves, hop, members_of, walk}
use Rattle.aggregates.proofs.joining.Chains.{hop_suc, hop_low}

-- of the chain's n members, i have the group b, and from `cur` on the rest is to come
pub record Relabelling (ids₀ next : List ℕ) (first n b : ℕ) (ids : List ℕ) (i cur last : ℕ) : Type 0 where
  pub nodes : Each (λ v. v < length ids₀) (walk (n - i) next cur)
  pub goes : relabelled b (walk (n - i) next cur) ids ≡ relabelled b (walk n next first) ids₀
  pub here : cur ≡ hop i next first
  pub was : 0 < i → last ≡ hop (i - 1) next first

module _ (ids₀ next : List ℕ) (first n b : ℕ) where
  pub relabel_first : Each (λ v. v < length ids₀) (walk n next first) → Relabelling ids₀ next first n b ids₀ 0 first first
  unfolding hop
  relabel_first a = let e : n - 0 ≡ n = omega arith in record { nodes = rw e a; goes = rw e refl; here = refl; was = λ h. absurd (omega arith) }

  module _ (ids : List ℕ) (i cur last : ℕ) (inv : Relabelling ids₀ next first n b ids i cur last) where
    pub relabel_last : i ≡ n → (ids ≡ relabelled b (walk n next first) ids₀) × (0 < n → last ≡ hop (n - 1) next first)
    unfolding relabelled walk
    relabel_last e = let z : n - i ≡ 0 = omega arith in (rw z at inv.goes, rw e at inv.was)

    module _ (some : i < n) where
      is : n - i ≡ suc (n - (i + 1))
      is = omega arith

      pub relabel_node : cur < length ids₀
      unfolding walk
      relabel_node = let a : Each (λ v. v < length ids₀) (walk (suc (n - (i + 1))) next cur) = rw is at inv.nodes in each_head a

      pub relabel_step : Relabelling ids₀ next first n b (set ids cur b) (i + 1) (get_or next cur 0) cur
      unfolding walk relabelled
      relabel_step =
          let a : Each (λ v. v < length ids₀) (walk (suc (n - (i + 1))) next cur) = rw is at inv.nodes in
          let g : relabelled b (walk (suc (n - (i + 1))) next cur) ids ≡ relabelled b (walk n next first) ids₀ = rw is at inv.goes in
          let e : i + 1 ≡ suc i = omega arith in
          let e' : i + 1 - 1 ≡ i = omega arith in
          record {
            nodes = each_tail a;
            goes = g;
            here = rw (e, hop_suc i next first, ← inv.here) refl;
            was = λ h. rw e' inv.here;
          }

pub move_last : (n : ℕ) (c : Chains) (g b : ℕ) → Moves n c g b → hop (at c.counts g - 1) c.next (at c.first g) < n
unfolding members_of
move_last n c g b asks = hop_low (λ v. v < n) (at c.counts g) c.next (at c.first g) asks.some asks.nodes
