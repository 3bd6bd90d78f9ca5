-- One pass over the touched columns or over a row's entries, told by what is left of it.
use Prim.Native.Nat.{ℕ, ◌+◌, ◌<◌, ◌≤◌}
use mathlib.Core.Path.{◌≡◌}
use mathlib.Core.List.{List, zip_with}
use native.Mathlib.Numerals.{add-one}
use lib.ListN.{length, get_or, set}
use lib.Seq.{slice, slice-cons, slice_empty}
use lib.Ieee.{Float, nan}
use Rattle.definitions.specs.Numbers.{◌-ᶠ◌, ◌*ᶠ◌}
use Rattle.definitions.specs.Matrix.{stored}
use Rattle.transfer.proofs.Steps.{lowered, smoothing}
use Rattle.transfer.specs.Touched.{insert_once, named}
use Rattle.transfer.proofs.Steps.{insert_all}

-- ---- entries that are left

module _ (idx : List ℕ) (vals : List Float) (column : ℕ → ℕ) (damping inv : Float) (to : ℕ) where
  abbrev pub rest : ℕ → List Float → List Float
  rest k w = lowered (smoothing column damping inv (stored idx vals k to)) w

  pub rest_step : (k j : ℕ) (w : List Float) → k < to → to ≤ length idx → to ≤ length vals → j ≡ column (get_or idx k 0)
      → rest (k + 1) (set w j (get_or w j nan -ᶠ damping *ᶠ get_or vals k nan *ᶠ inv)) ≡ rest k w
  unfolding lowered zip_with
  rest_step k j w h p q e = rw (e, add-one, slice-cons k to idx 0 h p, slice-cons k to vals nan h q)

  pub rest_done : (w : List Float) → rest to w ≡ w
  unfolding lowered zip_with
  rest_done w = rw (slice_empty to idx)

-- ---- columns that are left to be put in

pub named_step : (idx : List ℕ) (column : ℕ → ℕ) (to k j : ℕ) (l : List ℕ) → k < to → to ≤ length idx → j ≡ column (get_or idx k 0)
    → insert_all (named column (slice (k + 1) to idx)) (insert_once j l) ≡ insert_all (named column (slice k to idx)) l
unfolding insert_all
named_step idx column to k j l h p e = rw (e, add-one, slice-cons k to idx 0 h p)

pub named_done : (idx : List ℕ) (column : ℕ → ℕ) (to : ℕ) (l : List ℕ) → insert_all (named column (slice to to idx)) l ≡ l
unfolding insert_all
named_done idx column to l = rw (slice_empty to idx)
