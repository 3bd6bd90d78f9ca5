-- The id of the row's node, times the block size, plus the component.
use native.Mathlib.Omega.{arith}
use mathlib.Core.Path.{refl}
use Rattle.laws.proofs.CoarseColumns.{column_is, column_from}
use Rattle.transfer.proofs.smoothing.Smoothing.column_of.Goals as goal

pub overflow_mul-result : goal.overflow_mul-result
overflow_mul-result c =
    let g = c.args.self.now.groups in
    omega (arith, g.grouped.within c.args.row (omega arith), g.grouped.small, column_from g.size g.ids.now c.args.row _ _ c.quotient-node.ensures refl)

pub overflow_add-result : goal.overflow_add-result
overflow_add-result c =
    let g = c.args.self.now.groups in
    rw (column_is g.size g.ids.now c.args.row _ _ c.quotient-node.ensures refl) (omega (arith, g.grouped.within c.args.row (omega arith), g.grouped.small))

pub returns-clause-value : goal.returns-clause-value
returns-clause-value c = let g = c.args.self.now.groups in column_is g.size g.ids.now c.args.row _ _ c.quotient-node.ensures refl

pub returns-clause-below : goal.returns-clause-below
returns-clause-below c =
    let g = c.args.self.now.groups in
    rw (column_is g.size g.ids.now c.args.row _ _ c.quotient-node.ensures refl) (g.grouped.within c.args.row (omega arith))
