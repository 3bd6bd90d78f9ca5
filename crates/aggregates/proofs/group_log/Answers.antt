-- `group_log`: the checks of grouping alone, then cause 29, and the accepted call.
use Rattle.std.proofs.lemmas.Result.{err_from_is_err_and}
use native.Mathlib.Omega.{arith}
use Rattle.definitions.specs.Groups.{graph_grouping, listed, no_anchor}
use Rattle.aggregates.proofs.Stages.{log_fits}
use Rattle.aggregates.proofs.LogAnswered.{log_refused, log_short, log_accepted}
use Rattle.aggregates.proofs.group_log.Goals as goal

pub returns-in_err-lists : goal.returns-in_err-lists
returns-in_err-lists c =
    let a = c.args in
    let p = err_from_is_err_and c.from_residual.result c.from_residual.ensures.1 in
    rw (p.1, p.2) (log_refused a.nodes a.size a.offsets.now a.neighbours.now a.ids.now a.log.now a.work.now _ c.in_err-lists.ensures)

pub returns-then-log-nodes : goal.returns-then-log-nodes
returns-then-log-nodes c =
    let a = c.args in
    log_short a.nodes a.size a.offsets.now a.neighbours.now a.ids.now a.log.now a.work.now (graph_grouping (listed a.offsets.now a.neighbours.now) no_anchor a.nodes a.size) c.in_ok-lists.ensures.0 (omega (arith, c.if-log-nodes.true))

pub returns : goal.returns
returns c =
    let a = c.args in
    let f = c.group_into in
    let accepted = c.in_ok-lists.ensures in
    let is = accepted.1 in
    let made = rw (is.number, is.offsets_are, is.neighbours_are) at f.ensures.logged in
    log_accepted a.nodes a.size a.offsets.now a.neighbours.now a.ids.now a.log.now a.work.now (graph_grouping (listed a.offsets.now a.neighbours.now) no_anchor a.nodes a.size) accepted.0 (omega (arith, c.if-log-nodes.false)) c.fill.new.self f.new.ids f.new.log f.new.work f.result.groups f.result.joinings (c.fill.ensures.after (λ y e. e)) (omega (arith, log_fits (listed a.offsets.now a.neighbours.now) a.nodes a.size accepted.2.0, c.if-log-nodes.false)) made f.ensures.work_after
