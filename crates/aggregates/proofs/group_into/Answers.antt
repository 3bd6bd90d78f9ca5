-- `group_into`: the group of each node goes to the front of `ids`.
use mathlib.Core.Path.{◌≡◌, ap, ◌∙◌}
use native.Mathlib.Omega.{arith}
use lib.ListN.{length, replicate}
use Rattle.definitions.specs.Lists.{padded}
use Rattle.definitions.specs.JoiningLog.{with_log}
use Rattle.aggregates.proofs.Stages.{padded_by}
use Rattle.aggregates.proofs.group_into.Goals as goal

pub returns-clause-logged : goal.returns-clause-logged
unfolding with_log
returns-clause-logged c =
    let a = c.args in
    let b = c.build-counts in
    let zeros : c.fill.new.self ≡ replicate (length c.split_at_mut-ids.result.1.now) 0 = c.fill.ensures.after (λ y e. e) in
    record {
      number = b.ensures.built.number;
      groups = (rw zeros (padded_by a.lists.now.nodes _ (length a.ids.now) b.new.ids (omega (arith, b.auto.ids, c.split_at_mut-ids.ensures.front_len)) (omega (arith, c.split_at_mut-ids.ensures.back_len)))) ∙ ap (padded 0 (length a.ids.now)) b.ensures.built.groups;
      joined = b.ensures.built.joined;
      written = b.ensures.built.written;
    }
