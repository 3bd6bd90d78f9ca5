-- What the numbers ask, by the first two and the lists behind them.
use borrow.Author.Rules.{rules}
use Rattle.std.proofs.lemmas.Result.{err_from_is_err_and}
use Rattle.grouping_text.proofs.whole.Asks.{asks_1, asks_2, asks_3, asks_4, asks_5, asks_6, asks_7}
use Rattle.grouping_text.proofs.whole.ask.Goals as goal
use Rattle.grouping_text.proofs.whole.ask.Goals.{then-not-is_empty-via-then-not-is_empty, then-not-is_empty-via-else-not-is_empty+then-not-whole}

pub returns-in_default-clause-asks : goal.returns-in_default-clause-asks
returns-in_default-clause-asks c = asks_1 _ _ c.in_default.ensures.cases

pub returns-then-nodes-gt-MAX_TEXT_NODES-clause-asks : goal.returns-then-nodes-gt-MAX_TEXT_NODES-clause-asks
returns-then-nodes-gt-MAX_TEXT_NODES-clause-asks c =
    asks_2 _ _ _ _ c.in-Some.ensures.cases.0 c.if-nodes-gt-MAX_TEXT_NODES.true

pub returns-in_default-split_first-clause-asks : goal.returns-in_default-split_first-clause-asks
returns-in_default-split_first-clause-asks c =
    asks_3 _ _ _ _ c.in-Some.ensures.cases.0 c.if-nodes-gt-MAX_TEXT_NODES.false c.in_default-split_first.ensures.cases

pub returns-in_err-got-clause-asks : goal.returns-in_err-got-clause-asks
returns-in_err-got-clause-asks c =
    let e = asks_4 _ c.args.whole _ _ c.in-Some.ensures.cases.0 c.if-nodes-gt-MAX_TEXT_NODES.false _ _ c.in-Some-split_first.ensures.cases.0 _ c.in_err-got.ensures.lists in
    let p = err_from_is_err_and c.from_residual.result c.from_residual.ensures.1 in
    rw (p.1, p.2) e

pub returns-then-not-is_empty-clause-asks : goal.returns-then-not-is_empty-clause-asks
returns-then-not-is_empty-clause-asks c =
    let one = c.in-Some.ensures.cases.0 in
    let two = c.in-Some-split_first.ensures.cases.0 in
    elim c.then-not-is_empty.branch [
      | then-not-is_empty-via-then-not-is_empty w ↦ asks_5 _ _ _ _ one c.if-nodes-gt-MAX_TEXT_NODES.false _ _ two _ c.in_ok-got.ensures.lists (search rules)
      | then-not-is_empty-via-else-not-is_empty+then-not-whole w ↦ asks_6 _ _ _ _ one c.if-nodes-gt-MAX_TEXT_NODES.false _ _ two _ c.in_ok-got.ensures.lists w.if-not-whole.true
    ]

pub returns-clause-asks : goal.returns-clause-asks
returns-clause-asks c =
    asks_7 _ _ _ _ c.in-Some.ensures.cases.0 c.if-nodes-gt-MAX_TEXT_NODES.false _ _ c.in-Some-split_first.ensures.cases.0 _ c.in_ok-got.ensures.lists (search rules) c.if-not-whole.false
