-- Listed at the front of the work list, and moved from there.
use Rattle.two_level_setup.proofs.Weights.{columns_moved}
use lib.Seq.{length_front}
use Rattle.two_level_setup.proofs.basis.place_columns.Goals as goal

pub returns : goal.returns
returns c =
    let a = c.args in
    let h = c.requires in
    let l = c.list_columns in
    let k = c.keep_columns in
    columns_moved a.size a.nodes a.rows a.ints.now a.work.now l.new.columns k.new.ints k.new.work h.4 h.3 l.ensures (length_front a.work.now l.new.columns a.rows l.auto.columns) k.ensures
