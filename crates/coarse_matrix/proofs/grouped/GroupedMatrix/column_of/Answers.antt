-- The id of the row's node, times the block size, plus the component.
use native.Mathlib.Omega.{arith}
use mathlib.Core.Path.{refl}
use Rattle.laws.proofs.CoarseColumns.{column_is, column_from}
use Rattle.coarse_matrix.proofs.grouped.GroupedMatrix.column_of.Goals as goal

pub overflow_mul-result : goal.overflow_mul-result
overflow_mul-result c =
    let s = c.args.self.now in
    omega (arith, s.groups.grouped.within c.args.row (rw s.same_rows c.requires), s.groups.grouped.small, column_from s.groups.size s.groups.ids.now c.args.row _ _ c.quotient-node.ensures refl)

pub overflow_add-result : goal.overflow_add-result
overflow_add-result c =
    let s = c.args.self.now in
    rw (column_is s.groups.size s.groups.ids.now c.args.row _ _ c.quotient-node.ensures refl) (omega (arith, s.groups.grouped.within c.args.row (rw s.same_rows c.requires), s.groups.grouped.small))

pub returns-clause-value : goal.returns-clause-value
returns-clause-value c = let s = c.args.self.now in column_is s.groups.size s.groups.ids.now c.args.row _ _ c.quotient-node.ensures refl

pub returns-clause-below : goal.returns-clause-below
returns-clause-below c =
    let s = c.args.self.now in
    rw (column_is s.groups.size s.groups.ids.now c.args.row _ _ c.quotient-node.ensures refl) (s.groups.grouped.within c.args.row (rw s.same_rows c.requires))
