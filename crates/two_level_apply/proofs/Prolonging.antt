-- Prolongation: each row gains one number, so that the rows done are filled in and the others are as they were.
use Prim.Native.Nat.{ℕ, zero, suc, ◌+◌, ◌<◌, ◌≤◌}
use mathlib.Core.Path.{◌≡◌, ap, ◌∙◌}
use mathlib.Core.List.{List, ◌++◌, foldl, zip_with}
use native.Mathlib.Omega.{arith}
use native.Mathlib.Numerals.{add-one}
use lib.ListN.{length, get_or, drop, drop_of_length-le}
use lib.Seq.{drop-cons}
use lib.Ieee.{Float, nan}
use Rattle.definitions.specs.Lists.{tab}
use Rattle.definitions.specs.Numbers.{◌+ᶠ◌, ◌*ᶠ◌}
use Rattle.definitions.specs.Apply.{prolongation_terms}
use Rattle.laws.proofs.Growing.{tab_none, tab_more, tab_all, tab_unread}
use Rattle.laws.specs.Scatter.{scatter, scattered, single}
use Rattle.csr32.specs.Parts.{entries}

module _ (x : ℕ → Float) (z : List Float) where
  abbrev gains : ℕ → Float
  gains i = get_or z i nan +ᶠ x i

  gained_by_lem : (n : ℕ) → n ≤ length z → scattered (single (λ i. i) x) n z ≡ tab gains n ++ drop n z
  unfolding scattered scatter
  gained_by_lem zero h = tab_none gains z
  gained_by_lem (suc n) h =
      let s = scattered (single (λ i. i) x) n z in
      let e = gained_by_lem n (omega arith) in
      rw add-one at (tab_more gains n s z (get_or s n nan +ᶠ x n) (omega arith) e (ap (λ v. v +ᶠ x n) (tab_unread nan gains n s z (omega arith) e)))

  pub gained_all : (n : ℕ) (l : List Float) → n ≡ length z → l ≡ scattered (single (λ i. i) x) n z → l ≡ tab (λ i. get_or z i nan +ᶠ x i) (length z)
  gained_all n l h e = tab_all gains n l z h (e ∙ gained_by_lem n (omega arith))

module _ (idx : List ℕ) (vals sol : List Float) where
  -- the sum so far, and what the weights from k on add to it
  abbrev pub sum_left : ℕ → Float → Float
  sum_left k s = foldl (λ a v. a +ᶠ v) s (prolongation_terms (entries (drop k idx) (drop k vals)) sol)

  pub sum_step : (k n : ℕ) (c : ℕ) (v s t : Float) → n ≡ k + 1 → k < length idx → k < length vals → c ≡ get_or idx k 0 → v ≡ get_or vals k nan → sum_left k s ≡ t
      → sum_left n (s +ᶠ v *ᶠ get_or sol c nan) ≡ t
  unfolding prolongation_terms zip_with
  sum_step k n c v s t en p q ec ev inv = rw (en, ec, ev, add-one) (rw (drop-cons idx k 0 p, drop-cons vals k nan q) at inv)

  pub sum_done : (k : ℕ) (s t : Float) → length idx ≤ k → sum_left k s ≡ t → s ≡ t
  unfolding prolongation_terms zip_with
  sum_done k s t h e = rw (drop_of_length-le idx h) at e
