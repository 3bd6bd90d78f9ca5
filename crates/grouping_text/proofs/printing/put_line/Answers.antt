-- `put_line` puts the four pieces.
use Rattle.grouping_text.proofs.printing.Bytes.{puts_line, puts_decimal}
use Rattle.grouping_text.proofs.printing.put_line.Goals as goal

pub returns : goal.returns
returns c =
    puts_line _ _ _ _ _ _ _ _ _ _ _ _ (puts_decimal _ _ _ _ _ c.put_decimal-first.ensures) c.put-second.ensures (puts_decimal _ _ _ _ _ c.put_decimal-third.ensures) c.put.ensures
