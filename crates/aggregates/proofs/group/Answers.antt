-- `group`: the checks, then the accepted call.
use Rattle.std.proofs.lemmas.Result.{err_from_is_err_and}
use lib.ListN.{length}
use Rattle.definitions.specs.Groups.{grouping_call, graph_grouping, listed, no_anchor}
use Rattle.definitions.specs.JoiningLog.{with_log}
use Rattle.aggregates.proofs.Answered.{refused_answer, refused_left, refused_work, accepted_answer, accepted_left, accepted_work}
use Rattle.aggregates.proofs.group.Goals as goal

pub returns-in_err-lists : goal.returns-in_err-lists
returns-in_err-lists c =
    let a = c.args in
    let call = grouping_call a.nodes a.size a.offsets.now a.neighbours.now (length a.ids.now) (length a.work.now) in
    let p = err_from_is_err_and c.from_residual.result c.from_residual.ensures.1 in
    let e = c.in_err-lists.ensures in
    rw (p.1, p.2) (refused_answer call _ e, (refused_left call _ e a.ids.now, refused_work call _ e a.work.now))

pub returns : goal.returns
unfolding with_log
returns c =
    let a = c.args in
    let f = c.group_into-counts in
    let call = grouping_call a.nodes a.size a.offsets.now a.neighbours.now (length a.ids.now) (length a.work.now) in
    let g = graph_grouping (listed a.offsets.now a.neighbours.now) no_anchor a.nodes a.size in
    let is = c.in_ok-lists.ensures.1 in
    let made = rw (is.number, is.offsets_are, is.neighbours_are) at f.ensures.logged in
    (accepted_answer call g c.in_ok-lists.ensures.0 f.result.groups made.number, (accepted_left call g c.in_ok-lists.ensures.0 a.ids.now f.new.ids made.groups, accepted_work call g c.in_ok-lists.ensures.0 a.work.now f.new.work f.ensures.work_after))
