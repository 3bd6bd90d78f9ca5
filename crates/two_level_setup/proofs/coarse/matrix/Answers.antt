-- No check of either call fails.
use Rattle.two_level_setup.proofs.Matrices.{constant_made, galerkin_made}
use Rattle.csr32.specs.Seen.{lent}
use Rattle.two_level_setup.proofs.coarse.matrix.Goals as goal

pub returns-in-PiecewiseConstant : goal.returns-in-PiecewiseConstant
returns-in-PiecewiseConstant c =
    let a = c.args in
    let h = c.requires in
    let l = c.list_columns in
    let k = c.constant_coarse in
    let z = c.fill in
    constant_made (lent a.a.now) a.setup a.ints.now a.floats.now a.work_ints.now a.work_floats.now h.matrix_fit c.in-PiecewiseConstant.is l.new.columns z.new.self l.auto.columns (rw h.placed.pointers at l.ensures) k.new.coarse k.ensures.1 (z.ensures.after (λ y e. e))

pub returns-in-JacobiSmoothed : goal.returns-in-JacobiSmoothed
returns-in-JacobiSmoothed c =
    let a = c.args in
    let h = c.requires in
    let q = h.placed in
    let k = c.galerkin_coarse in
    galerkin_made (lent a.a.now) a.setup a.ints.now a.floats.now a.work_ints.now a.work_floats.now h.matrix_fit c.in-JacobiSmoothed.is k.new.ints k.new.floats (rw (q.pointers, q.columns, q.weights, q.coarse) at k.ensures.2) (rw (q.pointers, q.columns, q.weights, q.coarse) at k.ensures.1)
