-- The answer, or the cause, of what the numbers ask.
use Rattle.grouping_text.specs.Steps.{asked_of}
use Rattle.grouping_text.proofs.Program.{prints_answer, prints_cause}
use Rattle.grouping_text.proofs.say.Goals as goal

pub returns-in-Ok : goal.returns-in-Ok
returns-in-Ok c =
    let q = asked_of c.ask.new.offsets c.ask.new.neighbours c.in-Ok.asked in
    let e = prints_answer _ q c.in-Ok.ensures.asks in
    rw (← e) c.answer.ensures

pub returns-in-Err : goal.returns-in-Err
returns-in-Err c =
    let e = prints_cause _ _ c.in-Err.ensures.asks in
    rw (← e) (rw c.number_of.ensures at c.put_head.ensures)
