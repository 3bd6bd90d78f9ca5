-- The whole blocks, and the last one where rows are left.
use Rattle.std.proofs.Common.{◌+◌, ◌-◌, ◌*◌, ◌/◌, ◌≤◌, ◌∙◌, length, arith}
use Rattle.block_apply.proofs.Places.{count_inside, rest_narrow, rest_width, blocks_more, blocks_all, factor_end, length_part, one_block}
use Rattle.block_apply.proofs.blocks.solve_blocks.Goals as goal

pub slice_bounds-blocks_by_size-end : goal.slice_bounds-blocks_by_size-end
slice_bounds-blocks_by_size-end c = let a = c.args in factor_end a.rows a.size (a.rows / a.size * a.size) (a.rows - a.rows / a.size * a.size) _ (rest_narrow a.rows a.size (omega arith)) (omega arith) (omega arith)

pub returns-then-first-rows : goal.returns-then-first-rows
returns-then-first-rows c =
    let a = c.args in
    let n = c.blocks_by_size in
    let u = c.blocks_by_size-then-first-rows in
    let k = a.rows / a.size in
    let first = k * a.size in
    let w = a.rows - first in
    let at = first * a.size in
    let narrow = rest_narrow a.rows a.size (omega arith) in
    let end : at + w * w ≤ length a.factors.now = factor_end a.rows a.size first w _ narrow (omega arith) (omega arith) in
    let one = u.ensures ∙ one_block w _ _ _ (length_part a.factors.now at (at + w * w - at) (w * w) (omega arith) end)
    (length_part a.r.now first (length a.r.now - first) w (omega arith) (omega arith)) (length_part n.new.z first (length n.new.z - first) w (omega arith) (omega arith)) in
    let m = blocks_more a.rows a.size a.factors.now a.r.now a.z.now n.new.z u.new.z k w (length n.new.z - first) (length a.r.now - first) (at + w * w - at) (omega arith) (omega arith)
    (rest_width a.rows a.size k narrow) (omega arith) (omega arith) (omega arith) (rw c.requires.0 at n.ensures) one in
    blocks_all a.rows a.size a.factors.now a.r.now a.z.now _ (k + 1) (omega arith) (omega (arith, narrow)) (omega arith) m

pub returns-else-first-rows : goal.returns-else-first-rows
returns-else-first-rows c =
    let a = c.args in
    blocks_all a.rows a.size a.factors.now a.r.now a.z.now _ (a.rows / a.size) (omega arith) c.if-first-rows.false (omega (arith, count_inside a.rows a.size)) (rw c.requires.0 at c.blocks_by_size.ensures)
