-- A node's rows gain its group's part of the solution.
use Rattle.std.proofs.Common.{◌≡◌, ◌+◌, ◌-◌, ◌*◌, ◌≤◌, length, get_or, refl, arith}
use lib.Ieee.{nan}
use Rattle.definitions.specs.Transfer.{coarse_column}
use Rattle.laws.proofs.Scattering.{none_step}
use Rattle.two_level_apply.specs.Scatter.{prolong_puts}
use Rattle.two_level_apply.proofs.AddedParts.{length_part, part_added}
use Rattle.two_level_apply.proofs.Nodes.{rows_within, rows_passed, prolong_node}
use Rattle.two_level_apply.proofs.Prolonging.{gained_all}
use Rattle.two_level_apply.proofs.prolongation.prolong_constant.Goals as goal

pub loop-node-init : goal.loop-node-init
loop-node-init c = let a = c.args in let z : 0 * a.size ≡ 0 = omega arith in rw z (none_step (prolong_puts (coarse_column a.size a.ids.now) a.sol.now) a.z.now)

pub loop-node-preserved : goal.loop-node-preserved
loop-node-preserved c =
    let a = c.args in
    let o = c.loop-node in
    let first = o.node * a.size in
    let w = get_or a.ids.now o.node 0 in
    let base = w * a.size in
    let h : first + a.size ≤ length o.z = omega (arith, rows_within c.requires first o.node refl (omega arith)) in
    let z : (o.node + 1) * a.size ≡ first + a.size = omega arith in
    rw z (prolong_node a.size a.ids.now first o.node w refl refl a.sol.now a.z.now o.z _ o.invariant
    (part_added a.sol.now o.z base first a.size h (first + a.size - first) (base + a.size - base) _ c.add_list.new.to (omega arith) (omega arith) (length_part o.z first (first + a.size - first) a.size (omega arith) h) c.add_list.ensures))

pub returns : goal.returns
returns c =
    let a = c.args in
    let o = c.loop-node in
    gained_all (λ i. get_or a.sol.now (coarse_column a.size a.ids.now i) nan) a.z.now (o.node * a.size) o.z (rows_passed c.requires (o.node * a.size) o.node refl (omega arith)) o.invariant
