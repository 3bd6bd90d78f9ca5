-- A dense block's numbers: the first w · w of an array of 64.
use Rattle.std.specs.Prelude.{ℕ, ◌*◌, Bool, List, get_or, take, replicate, Float}
use Rattle.std.specs.Float.{nan}
use Rattle.std.specs.Float.Ieee.{lt}
use Rattle.definitions.specs.Lists.{any, up_to}
use Rattle.definitions.specs.Numbers.{zeroᶠ, ◌-ᶠ◌, magnitude}
use Rattle.definitions.specs.Block.{in_block}

unfoldable pub blank : List Float
blank = replicate 64 zeroᶠ

abbrev pub dense : ℕ → List Float → List Float
dense w a = take (w * w) a

-- the entry (i, j)
abbrev pub dense_entry : ℕ → List Float → ℕ → ℕ → Float
dense_entry w a i j = get_or (dense w a) (in_block w i j) nan

-- (i, j) and (j, i) further apart than tol; and some j of row i such
abbrev pub apart_at : List Float → ℕ → Float → ℕ → ℕ → Bool
apart_at d w tol i j = lt tol (magnitude (get_or d (in_block w i j) nan -ᶠ get_or d (in_block w j i) nan))

abbrev pub row_apart : List Float → ℕ → Float → ℕ → Bool
row_apart d w tol i = any (apart_at d w tol i) (up_to i)
