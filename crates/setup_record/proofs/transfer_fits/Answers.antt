-- Where the basis is smoothed, the parts of the list are the pointers and the columns.
use native.Mathlib.Omega.{arith}
use lib.ListN.{length-take, length-drop}
use Rattle.setup_record.proofs.Limits.{rowed_of}
use Rattle.setup_record.proofs.transfer_fits.Goals as goal

pub offset_bounds-ints-p : goal.offset_bounds-ints-p
offset_bounds-ints-p c = let a = c.args in omega (arith, rowed_of a.s.basis a.s a.p _ c.requires.0 c.requires.1 c.in-JacobiSmoothed.is c.requires.2)

pub slice_bounds-pointers-end : goal.slice_bounds-pointers-end
slice_bounds-pointers-end c = let a = c.args in omega (arith, rowed_of a.s.basis a.s a.p _ c.requires.0 c.requires.1 c.in-JacobiSmoothed.is c.requires.2)

pub overflow_add-columns : goal.overflow_add-columns
overflow_add-columns c = let a = c.args in omega (arith, rowed_of a.s.basis a.s a.p _ c.requires.0 c.requires.1 c.in-JacobiSmoothed.is c.requires.2)

pub slice_bounds-columns-end : goal.slice_bounds-columns-end
slice_bounds-columns-end c = let a = c.args in omega (arith, rowed_of a.s.basis a.s a.p _ c.requires.0 c.requires.1 c.in-JacobiSmoothed.is c.requires.2)

pub rows_fit-requires : goal.rows_fit-requires
rows_fit-requires c =
    let a = c.args in
    let f = rowed_of a.s.basis a.s a.p _ c.requires.0 c.requires.1 c.in-JacobiSmoothed.is c.requires.2 in
    (simp (length-take, length-drop) (omega (arith, f)), f.rows)
