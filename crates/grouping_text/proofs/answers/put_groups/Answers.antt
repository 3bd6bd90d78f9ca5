-- `put_groups`: the head, then the lines.
use Rattle.grouping_text.proofs.printing.Bytes.{puts_then}
use Rattle.grouping_text.proofs.answers.put_groups.Goals as goal

pub returns : goal.returns
returns c = puts_then _ _ _ _ _ c.put_head-at.ensures _ _ _ c.put_ids.ensures
