-- The groups are copied from the work list and zeros put behind them; then they are cleared, and zeros stand behind them already.
use Rattle.std.proofs.Common.{arith}
use Rattle.aggregates.specs.Within.{within_call}
use Rattle.two_level_grouping.proofs.Kept.{handed, cleared}
use Rattle.two_level_grouping.proofs.by_lists.Goals as goal

pub returns : goal.returns
returns c =
    let x = c.args in
    let g = c.group_within-answer in
    let d = c.copy_front in
    let call = within_call x.nodes x.size x.base x.work.now in
    record {
      answer = g.ensures.value;
      ids = λ y e l. handed call x.work.now g.new.work g.ensures.work_after y e x.nodes l x.ids.now d.new.to c.fill.new.self (omega arith) d.ensures d.auto.to (c.fill.ensures.after (λ y e. e));
      zeros = λ y e l. cleared call x.work.now g.new.work g.ensures.work_after y e x.nodes l (omega arith) c.fill-2.new.self (c.fill-2.ensures.after (λ y e. e));
    }
