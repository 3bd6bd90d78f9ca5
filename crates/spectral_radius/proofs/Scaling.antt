-- Causes 20 and 21, from the front of the diagonal: what is left of it decides.
use Prim.Native.Nat.{ℕ, ◌+◌, ◌<◌}
use mathlib.Core.Path.{◌≡◌}
use mathlib.Core.Bool.{true, false}
use mathlib.Core.List.{List}
use native.Mathlib.Numerals.{add-one}
use lib.ListN.{length, get_or, drop}
use lib.Seq.{drop-cons, drop-length}
use lib.Ieee.{Float, nan, lt}
use Rattle.definitions.specs.Numbers.{zeroᶠ, usable}
use Rattle.definitions.specs.Refusal.{refused, done}
use Rattle.definitions.specs.Estimate.{usable_from}
use Rattle.definitions.specs.declared.Refusal.TheVariants.{ZeroDiagonal, NegativeDiagonal}

module _ (d : List Float) (i : ℕ) (h : i < length d) where
  pub row_zero : usable (get_or d i nan) ≡ false → usable_from i (drop i d) ≡ refused (ZeroDiagonal i)
  unfolding usable_from
  row_zero e = rw (drop-cons d i nan h) (rw (e, usable_from))

  pub row_negative : usable (get_or d i nan) ≡ true → lt (get_or d i nan) zeroᶠ ≡ true → usable_from i (drop i d) ≡ refused (NegativeDiagonal i)
  unfolding usable_from
  row_negative e n = rw (drop-cons d i nan h) (rw (e, n, usable_from))

  pub row_passes : usable (get_or d i nan) ≡ true → lt (get_or d i nan) zeroᶠ ≡ false → usable_from (i + 1) (drop (i + 1) d) ≡ usable_from i (drop i d)
  unfolding usable_from
  row_passes e n = rw (drop-cons d i nan h, add-one) (rw (e, n, usable_from))

pub rows_done : (d : List Float) (i : ℕ) → i ≡ length d → usable_from i (drop i d) ≡ done tt
unfolding usable_from
rows_done d i e = rw (e, drop-length d)
