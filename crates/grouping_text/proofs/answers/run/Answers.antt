-- `run` prints what the call answered, at the lengths that its lists have.
use Rattle.grouping_text.proofs.answers.Printed.{printed_refused, printed_done}
use Rattle.grouping_text.proofs.answers.run.Goals as goal

pub returns-in-Err : goal.returns-in-Err
returns-in-Err c =
    let g = rw (c.requires.0, c.requires.1) at c.group-found.ensures in
    rw (← printed_refused _ _ _ _ g.0 c.in-Err.is c.number_of.ensures) c.put_head.ensures

pub returns-in-Ok : goal.returns-in-Ok
returns-in-Ok c =
    let g = rw (c.requires.0, c.requires.1) at c.group-found.ensures in
    rw (← printed_done _ _ _ _ _ _ _ _ _ c.requires.0 g.0 c.in-Ok.is g.1.0) c.put_groups.ensures
