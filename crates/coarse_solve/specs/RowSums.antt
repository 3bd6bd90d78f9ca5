-- Sums over rows and columns.
use Rattle.std.specs.Prelude.{ℕ, suc, ◌+◌, ◌<◌, ◌≤◌, List, length, get_or, Float}
use mathlib.Core.List.{foldl}
use Rattle.std.specs.Float.{nan}
use Rattle.definitions.specs.Lists.{tab}
use Rattle.definitions.specs.Numbers.{◌+ᶠ◌, ◌*ᶠ◌, summed}
use Rattle.definitions.specs.Coarse.{packed_entry, coarse_solve}
use Rattle.definitions.specs.declared.TwoLevelCoarseApplyPolicy.TheVariants.{ExplicitInverse}

-- a sum with the numbers of a list added, by +=
unfoldable pub added : Float → List Float → Float
added x ys = foldl (λ s y. s +ᶠ y) x ys

-- the products of the numbers of two lists
abbrev pub product : List Float → List Float → ℕ → Float
product a b k = get_or a k nan *ᶠ get_or b k nan

-- the n numbers of l from start on, by those of y
abbrev pub row_sum : List Float → List Float → ℕ → ℕ → Float
row_sum l y n start = summed (tab (λ k. get_or l (start + k) nan *ᶠ get_or y k nan) n)

-- the column i of the factor below the diagonal, by y
abbrev pub col_sum : List Float → List Float → ℕ → ℕ → Float
col_sum l y i n = summed (tab (λ m. packed_entry l (suc i + m) i *ᶠ get_or y (suc i + m) nan) n)

-- the sums of m rows of l, each of n numbers, by y
abbrev pub row_sums : List Float → List Float → ℕ → List ℕ → ℕ → List Float
row_sums l y n starts m = tab (λ r. row_sum l y n (get_or starts r 0)) m

-- each sum with the product at k added
abbrev pub with_terms : List Float → List Float → List ℕ → ℕ → Float → ℕ → List Float
with_terms sums l starts k x m = tab (λ r. get_or sums r nan +ᶠ get_or l (get_or starts r 0 + k) nan *ᶠ x) m

-- m rows of n numbers lie within l
abbrev pub RowsWithin : List Float → ℕ → List ℕ → ℕ → Type 0
RowsWithin l n starts m = (r : ℕ) → r < m → get_or starts r 0 + n ≤ length l

abbrev pub inverse_solve : ℕ → List Float → List Float → List Float
inverse_solve c part b = coarse_solve ExplicitInverse c part b
