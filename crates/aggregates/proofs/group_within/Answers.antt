-- `group_within`: the list is cut at the neighbour lists; the checks, then the accepted call.
use Rattle.std.proofs.lemmas.Result.{err_from_is_err_and}
use Rattle.std.proofs.lemmas.List.{drop_min}
use mathlib.Core.Path.{◌≡◌, ap, sym, ◌∙◌}
use mathlib.Core.List.{append_assoc}
use native.Mathlib.Omega.{arith}
use lib.ListN.{length, drop, replicate, replicate-append-replicate}
use Rattle.definitions.specs.Lists.{padded}
use Rattle.definitions.specs.Groups.{graph_grouping, no_anchor}
use Rattle.aggregates.specs.Stored.{lists_at}
use Rattle.aggregates.specs.Within.{within_call}
use Rattle.aggregates.proofs.Answered.{refused_answer, refused_left, accepted_answer, accepted_left}
use Rattle.aggregates.proofs.StoredLists.{within_refused, within_done, stored_fits}
use Rattle.aggregates.proofs.Stages.{padded_by}
use Rattle.aggregates.proofs.group_within.Goals as goal

pub returns-in_err-lists : goal.returns-in_err-lists
returns-in_err-lists c =
    let a = c.args in
    let call = within_call a.nodes a.size a.base a.work.now in
    let p = err_from_is_err_and c.from_residual.result c.from_residual.ensures.1 in
    let cut : c.split_at_mut-room.result.1.now ≡ drop a.base a.work.now = c.split_at_mut-room.ensures.back ∙ ap (λ k. drop k a.work.now) c.min.ensures ∙ drop_min a.base a.work.now in
    let e = within_refused a.nodes a.size a.base a.work.now _ (rw cut at c.in_err-lists.ensures) in
    rw (p.1, p.2) (record { value = refused_answer call _ e; work_after = sym c.split_at_mut-room.ensures.value ∙ refused_left call _ e a.work.now })

pub split_at_mut-ids-requires : goal.split_at_mut-ids-requires
split_at_mut-ids-requires c =
    let a = c.args in
    let cut : c.split_at_mut-room.result.1.now ≡ drop a.base a.work.now = c.split_at_mut-room.ensures.back ∙ ap (λ k. drop k a.work.now) c.min.ensures ∙ drop_min a.base a.work.now in
    let l = rw cut at c.in_ok-lists.ensures in
    omega (arith, l.3, stored_fits a.base a.nodes a.work.now (rw (l.1.number, l.1.offsets_are, l.1.neighbours_are) at c.in_ok-lists.lists.fit), c.split_at_mut-room.ensures.front_len)

pub build-counts-requires-clause-space : goal.build-counts-requires-clause-space
build-counts-requires-clause-space c =
    let a = c.args in
    let cut : c.split_at_mut-room.result.1.now ≡ drop a.base a.work.now = c.split_at_mut-room.ensures.back ∙ ap (λ k. drop k a.work.now) c.min.ensures ∙ drop_min a.base a.work.now in
    let l = rw cut at c.in_ok-lists.ensures in
    let fits = stored_fits a.base a.nodes a.work.now (rw (l.1.number, l.1.offsets_are, l.1.neighbours_are) at c.in_ok-lists.lists.fit) in
    rw (l.1.number, l.1.neighbours_are) (omega (arith, l.3, fits, c.split_at_mut-room.ensures.front_len, c.split_at_mut-ids.ensures.back_len))

pub returns : goal.returns
returns c =
    let a = c.args in
    let b = c.build-counts in
    let call = within_call a.nodes a.size a.base a.work.now in
    let cut : c.split_at_mut-room.result.1.now ≡ drop a.base a.work.now = c.split_at_mut-room.ensures.back ∙ ap (λ k. drop k a.work.now) c.min.ensures ∙ drop_min a.base a.work.now in
    let l = rw cut at c.in_ok-lists.ensures in
    let is = within_done a.nodes a.size a.base a.work.now l.0 in
    let g = graph_grouping (lists_at a.base a.nodes a.work.now) no_anchor a.nodes a.size in
    let built = rw (l.1.number, l.1.offsets_are, l.1.neighbours_are) at b.ensures.built in
    let zeros : c.fill.new.self ≡ replicate (length c.split_at_mut-room.result.1.now) 0 = c.fill.ensures.after (λ y e. e) in
    record {
      value = accepted_answer call g is b.result.groups built.number;
      work_after = accepted_left call g is a.work.now _ (rw (b.ensures.cleared, zeros, append_assoc, replicate-append-replicate)
          (padded_by a.nodes _ (length a.work.now) b.new.ids (omega (arith, b.auto.ids, c.split_at_mut-ids.ensures.front_len)) (omega (arith, c.split_at_mut-ids.ensures.back_len, c.split_at_mut-room.ensures.front_len, c.split_at_mut-room.ensures.back_len))
          ∙ ap (padded 0 (length a.work.now)) built.groups));
    }
