-- Each bound in turn.
use Rattle.std.proofs.Common.{arith}
use lib.ListN.{length}
use Rattle.two_level_grouping.proofs.Rooms.{many_rows, many_cols, many_entries, misshapen, shaped_least, shaped_fit}
use Rattle.two_level_grouping.proofs.sizes_fit.Goals.{then-rows-gt-MAX_ROWS-via-then-rows-gt-MAX_ROWS, then-rows-gt-MAX_ROWS-via-else-rows-gt-MAX_ROWS+then-cols-gt-MAX_ROWS, then-rows-gt-MAX_ROWS-via-else-rows-gt-MAX_ROWS+else-cols-gt-MAX_ROWS+then-entries-gt-MAX_ENTRIES}
use Rattle.two_level_grouping.proofs.sizes_fit.Goals as goal

pub returns-then-rows-gt-MAX_ROWS : goal.returns-then-rows-gt-MAX_ROWS
returns-then-rows-gt-MAX_ROWS c =
    let x = c.args in
    elim c.then-rows-gt-MAX_ROWS.branch [
      | then-rows-gt-MAX_ROWS-via-then-rows-gt-MAX_ROWS w ↦ many_rows x.a.now.rows x.a.now.cols (length x.a.now.values.now) x.options.block x.options.group x.room x.work_room x.float_room (omega arith)
      | then-rows-gt-MAX_ROWS-via-else-rows-gt-MAX_ROWS+then-cols-gt-MAX_ROWS w ↦ many_cols x.a.now.rows x.a.now.cols (length x.a.now.values.now) x.options.block x.options.group x.room x.work_room x.float_room (omega arith) (omega arith)
      | then-rows-gt-MAX_ROWS-via-else-rows-gt-MAX_ROWS+else-cols-gt-MAX_ROWS+then-entries-gt-MAX_ENTRIES w ↦ many_entries x.a.now.rows x.a.now.cols (length x.a.now.values.now) x.options.block x.options.group x.room x.work_room x.float_room (omega arith) (omega arith) (omega arith)
    ]

pub nonzero_div-rows : goal.nonzero_div-rows
nonzero_div-rows c =
    let x = c.args in
    omega (arith, shaped_least x.a.now.rows x.a.now.cols (length x.a.now.values.now) x.options.block x.options.group x.room x.work_room x.float_room (omega arith) (omega arith) (omega arith) c.shape.result c.shape.ensures c.is_ok.result c.is_ok.ensures.value c.if-is_ok.true)

pub returns-then-is_ok : goal.returns-then-is_ok
returns-then-is_ok c =
    let x = c.args in
    shaped_fit x.a.now.rows x.a.now.cols (length x.a.now.values.now) x.options.block x.options.group x.room x.work_room x.float_room (omega arith) (omega arith) (omega arith) c.shape.result c.shape.ensures c.is_ok.result c.is_ok.ensures.value c.if-is_ok.true c.has_room.result c.has_room.ensures

pub returns-else-is_ok : goal.returns-else-is_ok
returns-else-is_ok c =
    let x = c.args in
    misshapen x.a.now.rows x.a.now.cols (length x.a.now.values.now) x.options.block x.options.group x.room x.work_room x.float_room (omega arith) (omega arith) (omega arith) c.shape.result c.shape.ensures c.is_ok.result c.is_ok.ensures.value c.if-is_ok.false
