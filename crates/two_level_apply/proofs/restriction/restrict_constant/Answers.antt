-- A node's part of the residual is added to its group's part; the puts into zeros are the sums of what the rows put.
use Rattle.std.proofs.Common.{◌≡◌, ◌+◌, ◌-◌, ◌*◌, ◌≤◌, length, get_or, refl, arith}
use Rattle.definitions.specs.Transfer.{coarse_column}
use Rattle.laws.proofs.Scattering.{none_step}
use Rattle.two_level_apply.specs.Scatter.{restrict_puts}
use Rattle.two_level_apply.proofs.AddedParts.{length_part, part_added}
use Rattle.two_level_apply.proofs.Nodes.{columns_within, rows_passed, restrict_node}
use Rattle.two_level_apply.proofs.Restricting.{constant_law}
use Rattle.two_level_apply.proofs.restriction.restrict_constant.Goals as goal

pub loop-node-init : goal.loop-node-init
loop-node-init c = let a = c.args in let z : 0 * a.size ≡ 0 = omega arith in rw z (none_step (restrict_puts (coarse_column a.size a.ids.now) a.r.now) c.fill.new.self)

pub loop-node-preserved : goal.loop-node-preserved
loop-node-preserved c =
    let a = c.args in
    let o = c.loop-node in
    let first = o.node * a.size in
    let w = get_or a.ids.now o.node 0 in
    let base = w * a.size in
    let h : base + a.size ≤ length o.rhs = omega (arith, columns_within c.requires first o.node refl w refl (omega arith)) in
    let z : (o.node + 1) * a.size ≡ first + a.size = omega arith in
    rw z (restrict_node a.size a.ids.now first o.node w refl refl a.r.now c.fill.new.self o.rhs _ o.invariant
    (part_added a.r.now o.rhs first base a.size h (base + a.size - base) (first + a.size - first) _ c.add_list.new.to (omega arith) (omega arith) (length_part o.rhs base (base + a.size - base) a.size (omega arith) h) c.add_list.ensures))

pub returns : goal.returns
returns c =
    let a = c.args in
    let o = c.loop-node in
    constant_law (coarse_column a.size a.ids.now) a.r.now c.fill.new.self o.rhs (length a.rhs.now) (c.fill.ensures.after (λ y e. e)) (rw (rows_passed c.requires (o.node * a.size) o.node refl (omega arith)) at o.invariant)
