-- By cases on the policy; Contiguous lists nothing, so that every offset is zero.
use Rattle.std.proofs.Common.{◌≡◌, ◌++◌, ◌∙◌, ap, length, length-append, replicate, arith}
use Rattle.definitions.specs.Lists.{padded}
use Rattle.adjacency.specs.Blocks.{matrix}
use Rattle.adjacency.proofs.Flats.{flat_linked, none_padded, padded_behind}
use Rattle.adjacency.proofs.build.build.Goals.{in-Contiguous, in-Graph}
use Rattle.adjacency.proofs.build.build.Goals as goal

pub returns-clause-work_ints_after : goal.returns-clause-work_ints_after
returns-clause-work_ints_after c =
    let a = c.args.a.now in
    elim c.match-aggregation.branch [
      | in-Contiguous w ↦ rw (w.work_ints-is, w.in-Contiguous.is) (w.fill.ensures.after (λ y e. e) ∙ none_padded (matrix a) a.size a.nodes c.args.base (length c.args.work_ints.now) (omega arith))
      | in-Graph w ↦
          let s = w.split_at_mut-front.ensures in
          let t = w.split_at_mut-stamps.ensures in
          let n : length (w.linked.new.stamps ++ w.linked.new.room) ≡ c.args.base = length-append w.linked.new.stamps w.linked.new.room ∙ omega (arith, w.linked.auto.stamps, w.linked.auto.room, s.front_len, t.back_len) in
          w.work_ints-is ∙ padded_behind c.args.base (length c.args.work_ints.now) (length w.split_at_mut-front.result.1.now) _ w.fill-in-Graph.new.self w.linked.new.lists (w.fill-in-Graph.ensures.after (λ y e. e) ∙ ap (λ m. replicate m 0) n)
          (w.linked.ensures ∙ ap (padded 0 (length w.split_at_mut-front.result.1.now)) (flat_linked (matrix a) a.size a.nodes c.args.aggregation a.strong c.requires.strong w.in-Graph.is)) (omega (arith, s.back_len))
    ]
