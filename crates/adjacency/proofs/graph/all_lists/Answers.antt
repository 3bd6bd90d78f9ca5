-- The lists of the nodes done so far are in their place, and so are their offsets.
use Rattle.std.proofs.Common.{◌≡◌, ◌-◌, ◌∙◌, length, drop, length-drop, arith}
use lib.ListN.{length-set}
use lib.Seq.{take_all}
use mathlib.Core.Path.{ap}
use Rattle.adjacency.proofs.Graphs.{graphed_first, graphed_more}
use Rattle.adjacency.proofs.Rests.{put_rest}
use Rattle.adjacency.proofs.graph.all_lists.Goals as goal

pub loop-v-init : goal.loop-v-init
loop-v-init c = graphed_first c.args.offsets.now c.args.names.now c.requires.between (omega arith)

pub loop-v-preserved : goal.loop-v-preserved
loop-v-preserved c =
    let a = c.args.a.now.blocks in
    let o = c.loop-v in
    let n = c.node_list-end in
    let m : length n.new.names ≡ length (drop o.end o.names) = n.auto.names ∙ ap length (take_all (length o.names - o.end) (drop o.end o.names) (omega (arith, length-drop o.end o.names))) in
    graphed_more a.fit o.invariant (omega arith) (omega arith) n.result n.new.names n.new.stamps n.new.sums n.new.strengths n.ensures (omega (arith, o.auto.offsets, length-set c.args.offsets.now 0 0)) m _ (put_rest o.end o.names n.new.names o.invariant.lined.fits)
