-- The loops of `tally`, `untally` and `pick`: their invariants and steps.
use Rattle.std.proofs.lemmas.List.{drop_more}
use mathlib.Core.Path.{◌≡◌, refl, sym, ◌∙◌}
use mathlib.Core.List.{List, []}
use Prim.Native.Nat.{ℕ, ◌+◌, ◌≤◌, ◌<◌}
use native.Mathlib.Omega.{arith}
use native.Mathlib.Decide.{ℕ_discrete}
use lib.ListN.{length, get_or, set, drop}
use lib.Seq.{get_or-set_same, get_or-set_other}
use mathlib.Core.Bool.{Bool, true, false}
use borrow.Author.Tests.{eq-eqb, ne_eqb}
use Rattle.definitions.specs.Groups.{chosen}
use Rattle.aggregates.specs.Stated.{candidate}
use Rattle.aggregates.specs.declared.candidate.Candidate.{Candidate}
use Rattle.aggregates.specs.JoinChoice.{before_by, better, chosen_goes, bump, wipe, at}

-- what holds of an element after a store, by cases on its index
pub after_set : (P : ℕ → Type 0) (w : List ℕ) (at v k : ℕ) → at < length w → (k ≡ at → P v) → ((k ≡ at → ⊥) → P (get_or w k 0)) → P (get_or (set w at v) k 0)
after_set P w at v k h y n = go (ℕ_discrete k at)
  where
    go : Dec (k ≡ at) → P (get_or (set w at v) k 0)
    go (yes e) = rw (e, get_or-set_same w at v 0 h) (y e)
    go (no d) = rw (get_or-set_other w at k v 0 d) (n d)

-- the counts so far, and what the names from i on still add
pub record Tally (names hits₀ hits : List ℕ) (i : ℕ) : Type 0 where
  pub few : (k : ℕ) → get_or hits k 0 ≤ i
  pub goes : bump (drop i names) hits ≡ bump names hits₀

module _ (names hits₀ : List ℕ) where
  module _ (hits : List ℕ) (i : ℕ) (inv : Tally names hits₀ hits i) where
    pub tally_step : i < length names → get_or names i 0 < length hits → Tally names hits₀ (set hits (get_or names i 0) (get_or hits (get_or names i 0) 0 + 1)) (i + 1)
    unfolding bump
    tally_step h k = record {
      few = λ j. after_set (λ y. y ≤ i + 1) hits (get_or names i 0) (get_or hits (get_or names i 0) 0 + 1) j k
          (λ e. omega (arith, inv.few (get_or names i 0)))
          (λ d. omega (arith, inv.few j));
      goes = rw (drop_more names i 0 h) at inv.goes;
    }

    pub tally_last : drop i names ≡ [] → hits ≡ bump names hits₀
    unfolding bump
    tally_last e = rw e at inv.goes

abbrev pub Wiping : List ℕ → List ℕ → List ℕ → ℕ → Type 0
Wiping names hits₀ hits i = wipe (drop i names) hits ≡ wipe names hits₀

module _ (names hits₀ hits : List ℕ) (i : ℕ) (inv : Wiping names hits₀ hits i) where
  pub wipe_step : i < length names → Wiping names hits₀ (set hits (get_or names i 0) 0) (i + 1)
  unfolding wipe
  wipe_step h = rw (drop_more names i 0 h) at inv

  pub wipe_last : drop i names ≡ [] → hits ≡ wipe names hits₀
  unfolding wipe
  wipe_last e = rw e at inv

module _ (e m : ℕ → ℕ) (best a : ℕ) where
  pub better_first : best ≡ 0 → better e m best a ≡ a
  unfolding better
  better_first z = rw (better, eq-eqb best 0 z)

  pub better_takes : (best ≡ 0 → ⊥) → before_by (e a) (e best) (m a) (m best) a best ≡ true → better e m best a ≡ a
  unfolding better
  better_takes z t = rw (better, ne_eqb best 0 z, t)

  pub better_leaves : (best ≡ 0 → ⊥) → before_by (e a) (e best) (m a) (m best) a best ≡ false → better e m best a ≡ best
  unfolding better
  better_leaves z t = rw (better, ne_eqb best 0 z, t)

  pub better_keeps : (Q : ℕ → Type 0) → Q best → Q a → Q (better e m best a)
  better_keeps Q q p = go (ℕ_discrete best 0)
    where
      pick : (t : Bool) → (best ≡ 0 → ⊥) → before_by (e a) (e best) (m a) (m best) a best ≡ t → Q (better e m best a)
      pick true d t = rw (better_takes d t) p
      pick false d t = rw (better_leaves d t) q

      go : Dec (best ≡ 0) → Q (better e m best a)
      go (yes z) = rw (better_first z) p
      go (no d) = pick (before_by (e a) (e best) (m a) (m best) a best) d refl

-- what `pick` has chosen so far
pub record Picking (counts hits names : List ℕ) (best : Candidate) (i : ℕ) : Type 0 where
  pub low : best.id < length hits
  pub edges : best.edges ≡ at hits best.id
  pub members : best.members ≡ at counts best.id
  pub goes : chosen (at hits) (at counts) best.id (drop i names) ≡ chosen (at hits) (at counts) 0 names

module _ (counts hits names : List ℕ) where
  module _ (best : Candidate) (i : ℕ) (inv : Picking counts hits names best i) where
    module _ (a : ℕ) (is : a ≡ get_or names i 0) (h : i < length names) where
      goes_on : (x : ℕ) → x ≡ better (at hits) (at counts) best.id a → chosen (at hits) (at counts) x (drop (i + 1) names) ≡ chosen (at hits) (at counts) 0 names
      goes_on x e = rw (e, is) (sym (chosen_goes (at hits) (at counts) best.id (get_or names i 0) (drop (i + 1) names)) ∙ (rw (drop_more names i 0 h) at inv.goes))

      compared : before_by (at hits a) best.edges (at counts a) best.members a best.id ≡ before_by (at hits a) (at hits best.id) (at counts a) (at counts best.id) a best.id
      compared = rw (inv.edges, inv.members) refl

      taken : a < length hits → a ≡ better (at hits) (at counts) best.id a → Picking counts hits names (candidate counts hits a) (i + 1)
      taken k e = record { low = k; edges = refl; members = refl; goes = goes_on a e }

      pub pick_begins : a < length hits → best.id ≡ 0 → Picking counts hits names (candidate counts hits a) (i + 1)
      pick_begins k z = taken k (sym (better_first (at hits) (at counts) best.id a z))

      pub pick_takes : a < length hits → (best.id ≡ 0 → ⊥) → before_by (at hits a) best.edges (at counts a) best.members a best.id ≡ true → Picking counts hits names (candidate counts hits a) (i + 1)
      pick_takes k z t = taken k (sym (better_takes (at hits) (at counts) best.id a z (sym compared ∙ t)))

      pub pick_leaves : (best.id ≡ 0 → ⊥) → before_by (at hits a) best.edges (at counts a) best.members a best.id ≡ false → Picking counts hits names best (i + 1)
      pick_leaves z t = record { low = inv.low; edges = inv.edges; members = inv.members; goes = goes_on best.id (sym (better_leaves (at hits) (at counts) best.id a z (sym compared ∙ t))) }

    pub pick_last : drop i names ≡ [] → best.id ≡ chosen (at hits) (at counts) 0 names
    unfolding chosen
    pick_last e = rw e at inv.goes
