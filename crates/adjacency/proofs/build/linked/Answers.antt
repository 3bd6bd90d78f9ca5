-- The lists and offsets make the flat list; what stands behind them is cleared.
use Rattle.std.proofs.Common.{◌≡◌, true, length, arith}
use Rattle.adjacency.specs.Blocks.{matrix}
use Rattle.adjacency.specs.Norms.{Normed}
use Rattle.adjacency.proofs.Flats.{lined_padded}
use Rattle.adjacency.proofs.Norming.{ready}
use Rattle.adjacency.proofs.Rests.{rest_filled}
use Rattle.adjacency.proofs.Steps.{true_false}
use Rattle.adjacency.proofs.build.linked.Goals.{then-a, else-a}
use Rattle.adjacency.proofs.build.linked.Goals as goal

pub invariant_of-normed-clause-normed : goal.invariant_of-normed-clause-normed
invariant_of-normed-clause-normed c = elim c.if-a.branch [
  | then-a w ↦ λ _. rw w.norms-is w.fill_norms.ensures
  | else-a w ↦ λ t. true_false t w.if-a.false
]

pub all_lists-end-requires-clause-between : goal.all_lists-end-requires-clause-between
all_lists-end-requires-clause-between c =
    let a = c.args.a.now in
    let s = c.split_at_mut-sums in
    let n = c.split_at_mut-norms in
    ready a.strong a.nodes (length c.args.stamps.now) (length c.args.floats.now) c.fill.new.self c.fill-2.new.self s.result.0.now s.result.1.now n.result.1.now
    (c.fill.ensures.after (λ y e. e)) (omega arith) (c.fill-2.ensures.after (λ y e. e)) s.ensures.front s.ensures.back n.ensures.back (omega (arith, s.ensures.front_len)) (omega (arith, s.ensures.back_len, n.ensures.back_len, c.fill-2.auto.self))

pub returns : goal.returns
returns c =
    let l = c.all_lists-end in
    let s = c.split_at_mut-offsets in
    let e = l.ensures in
    lined_padded e _ (length c.args.lists.now) (omega (arith, l.auto.offsets, s.ensures.front_len)) (omega (arith, l.auto.offsets, l.auto.names, s.ensures.front_len, s.ensures.back_len)) (rest_filled l.result l.new.names c.fill-3.new.self 0 e.fits (c.fill-3.ensures.after (λ y e. e)))
