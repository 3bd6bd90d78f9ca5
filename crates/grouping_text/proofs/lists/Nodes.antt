-- The lists of the nodes, one node further.
use mathlib.Core.Path.{◌≡◌, refl, ap, sym, ◌∙◌}
use mathlib.Core.List.{List, [], ◌∷◌, ◌++◌}
use Prim.Native.Nat.{ℕ, suc, ◌+◌, ◌-◌, ◌≤◌, ◌<◌}
use native.Mathlib.Numerals.{add-one}
use native.Mathlib.Omega.{arith}
use borrow.Author.Tests.{le-leb, lt-leb}
use lib.ListN.{length, set, take, drop}
use lib.Seq.{take-suc-set, length-take-le}
use Rattle.definitions.specs.Refusal.{refused, done}
use Rattle.definitions.specs.declared.Refusal.{Refusal}
use Rattle.definitions.specs.declared.Refusal.TheVariants.{TooLarge, NeighbourOffsets}
use Rattle.grouping_text.specs.Numbers.{listing, node_from, lists_from}
use Rattle.grouping_text.proofs.Agrees.{start, node_none, node_large, node_short, node_done, lists_refused, lists_next, lists_end}

pub got_none : (o nb ns : List ℕ) → length ns ≡ 0 → node_from o nb ns ≡ refused NeighbourOffsets
got_none o nb [] h = node_none o nb
got_none o nb (x ∷ ns) h = absurd (omega arith)

-- one node: x is how many it lists, and rest what stands behind that
module _ (nb : List ℕ) (have : ℕ) (few : have ≤ 2048) (room : 2048 ≤ length nb) (x : ℕ) (rest o : List ℕ) where
  front : length (take have nb) ≡ have
  front = length-take-le have nb (omega arith)

  pub got_large : 2048 - have < x → node_from o (take have nb) (x ∷ rest) ≡ refused TooLarge
  got_large p = node_large o (take have nb) x rest (lt-leb (length (take have nb) + x) 2048 (omega (arith, front)))

  module _ (p : x ≤ 2048 - have) where
    fits : length (take have nb) + x ≤ 2048
    fits = omega (arith, front)

    pub got_short : length rest < x → node_from o (take have nb) (x ∷ rest) ≡ refused NeighbourOffsets
    got_short q = node_short o (take have nb) x rest (le-leb (length (take have nb) + x) 2048 fits) (lt-leb x (length rest) q)

    pub got_lists : x ≤ length rest → node_from o (take have nb) (x ∷ rest) ≡ done (listing (o ++ ((have + x) ∷ [])) (take have nb ++ take x rest) (drop x rest))
    got_lists q = node_done o (take have nb) x rest (le-leb (length (take have nb) + x) 2048 fits) (le-leb x (length rest) q) ∙ rw front refl

-- all nodes: what is left asks what the whole asks
abbrev pub Goes : List ℕ → ℕ → List ℕ → List ℕ → List ℕ → ℕ → ℕ → Type 0
Goes ns nodes offsets nb rest i have = lists_from (nodes - i) (listing (take (i + 1) offsets) (take have nb) rest) ≡ lists_from nodes (start ns)

pub goes_first : (ns : List ℕ) (nodes : ℕ) (offsets nb : List ℕ) → 0 < length offsets → Goes ns nodes (set offsets 0 0) nb ns 0 0
goes_first ns nodes offsets nb h =
    let e : nodes - 0 ≡ nodes = omega arith in
    rw e (ap (λ l. lists_from nodes (listing l [] ns)) (take-suc-set offsets 0 0 h))

pub goes_last : (ns : List ℕ) (nodes : ℕ) (offsets nb rest : List ℕ) (have : ℕ) → Goes ns nodes offsets nb rest nodes have → done (listing (take (nodes + 1) offsets) (take have nb) rest) ≡ lists_from nodes (start ns)
goes_last ns nodes offsets nb rest have g =
    let z : nodes - nodes ≡ 0 = omega arith in
    sym (lists_end (listing (take (nodes + 1) offsets) (take have nb) rest)) ∙ (rw z at g)

module _ (ns : List ℕ) (nodes : ℕ) (offsets nb rest : List ℕ) (i have : ℕ) (g : Goes ns nodes offsets nb rest i have) (h : i < nodes) where
  left_is : nodes - i ≡ suc (nodes - suc i)
  left_is = omega arith

  pub goes_bad : (r : Refusal) → refused r ≡ node_from (take (i + 1) offsets) (take have nb) rest → refused r ≡ lists_from nodes (start ns)
  goes_bad r e =
      sym (lists_refused (nodes - suc i) (listing (take (i + 1) offsets) (take have nb) rest) r (sym e)) ∙ (rw left_is at g)

  pub goes_next : (nb' rest' : List ℕ) (have' : ℕ) → i + 1 < length offsets → done (listing (take (i + 1) offsets ++ (have' ∷ [])) (take have' nb') rest') ≡ node_from (take (i + 1) offsets) (take have nb) rest
      → Goes ns nodes (set offsets (i + 1) have') nb' rest' (i + 1) have'
  goes_next nb' rest' have' l e =
      let k : i + 1 + 1 ≡ suc (i + 1) = add-one (i + 1) in
      let m : nodes - (i + 1) ≡ nodes - suc i = ap (λ j. nodes - j) (add-one i) in
      let q : take (suc (i + 1)) (set offsets (i + 1) have') ≡ take (i + 1) offsets ++ (have' ∷ []) = take-suc-set offsets (i + 1) have' l in
      rw (k, m, q) (sym (lists_next (nodes - suc i) (listing (take (i + 1) offsets) (take have nb) rest) (listing (take (i + 1) offsets ++ (have' ∷ [])) (take have' nb') rest') (sym e)) ∙ (rw left_is at g))
