-- One row more.
use Rattle.definitions.specs.Matrix.{entries_of}
use Rattle.definitions.specs.Transfer.{coarse_column}
use Rattle.csr32.specs.Seen.{square}
use Rattle.laws.proofs.Scattering.{none_step}
use Rattle.coarse_matrix.specs.Scatter.{row_puts}
use Rattle.coarse_matrix.proofs.Squares.{matrix_step}
use Rattle.coarse_matrix.proofs.constant.add_matrix.Goals as goal

pub loop-r-init : goal.loop-r-init
loop-r-init c =
    let m = c.args.m.now in
    none_step (row_puts (coarse_column m.groups.size m.groups.ids.now) m.groups.coarse (entries_of (square m.a))) c.args.coarse.now

pub loop-r-preserved : goal.loop-r-preserved
loop-r-preserved c =
    let m = c.args.m.now in
    let l = c.loop-r in
    matrix_step (coarse_column m.groups.size m.groups.ids.now) m.groups.coarse (entries_of (square m.a)) l.r c.column_of-at.result c.args.coarse.now l.coarse c.add_entries.new.coarse
    l.invariant c.column_of-at.ensures.value c.add_entries.ensures
