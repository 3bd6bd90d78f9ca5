-- Special values by their tests, all others by their pattern.
use mathlib.Core.Path.{sym, ap, ◌∙◌}
use native.Mathlib.Omega.{arith}
use borrow.Author.Rules.{rules}
use lib.Dec.{T}
use lib.Ieee.{binary64, fits}
use lib.Ieee.Bits.{of_bits-to_bits}
use Rattle.std.proofs.lemmas.Float.{T_from_false, not_nan_f64_bits}
use Rattle.definitions.specs.Numbers.{rootᶠ}
use Rattle.root.proofs.Special.{root_nan, root_kept, at_zero, at_minus_zero, at_infinity, nan_literal, below_zero}
use Rattle.root.proofs.root_by.Goals as goal
use Rattle.root.proofs.root_by.Goals.{then-b-eq0-via-then-b-eq0, then-b-eq0-via-else-b-eq0+then-b, then-b-eq0-via-else-b-eq0+else-b+then-b-eq-INFINITY}

pub returns-then-is_nan : goal.returns-then-is_nan
returns-then-is_nan c = root_nan c.args.x (sym c.is_nan.ensures.value ∙ c.if-is_nan.true)

pub returns-then-b-eq0 : goal.returns-then-b-eq0
returns-then-b-eq0 c =
    let x = c.args.x in
    let f : T (fits binary64 x) = search rules in
    elim c.then-b-eq0.branch [
      | then-b-eq0-via-then-b-eq0 w ↦ root_kept x _ f w.if-b-eq0.true at_zero
      | then-b-eq0-via-else-b-eq0+then-b w ↦ root_kept x _ f w.if-b.true at_minus_zero
      | then-b-eq0-via-else-b-eq0+else-b+then-b-eq-INFINITY w ↦ root_kept x _ f w.if-b-eq-INFINITY.true at_infinity
    ]

pub returns-then-b-gt-INFINITY : goal.returns-then-b-gt-INFINITY
returns-then-b-gt-INFINITY c =
    let f : T (fits binary64 c.args.x) = search rules in
    let real = T_from_false _ (sym c.is_nan.ensures.value ∙ c.if-is_nan.false) in
    nan_literal ∙ sym (below_zero c.args.x f real c.if-b-gt-INFINITY.true c.if-b.false)

pub float_from_bits-result : goal.float_from_bits-result
float_from_bits-result c = not_nan_f64_bits c.root_bits.result (omega (arith, c.root_bits.ensures.0))

pub returns : goal.returns
returns c =
    let f : T (fits binary64 c.args.x) = search rules in
    c.root_bits.ensures.1 ∙ ap rootᶠ (of_bits-to_bits binary64 c.args.x f)
