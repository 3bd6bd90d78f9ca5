-- Each return is one test of the definition.
use mathlib.Core.Path.{sym, ◌∙◌}
use native.Mathlib.Omega.{arith}
use lib.ListN.{length}
use Rattle.transfer.proofs.Checking.{too_large, coarse_ints, coarse_floats, wrong_diagonal, other_ids, id_outside, groups_passed}
use Rattle.transfer.proofs.checks.groups.Goals as goal

pub returns-then-c-gt-MAX_COARSE : goal.returns-then-c-gt-MAX_COARSE
returns-then-c-gt-MAX_COARSE c = let a = c.args in too_large a.a.now.rows (length a.a.now.values.now) a.size a.ids.now a.count a.diagonal a.ints a.floats (omega arith)

pub returns-then-ints-rows : goal.returns-then-ints-rows
returns-then-ints-rows c = let a = c.args in coarse_ints a.a.now.rows (length a.a.now.values.now) a.size a.ids.now a.count a.diagonal a.ints a.floats (omega arith) (omega arith)

pub returns-then-floats-rows : goal.returns-then-floats-rows
returns-then-floats-rows c = let a = c.args in coarse_floats a.a.now.rows (length a.a.now.values.now) a.size a.ids.now a.count a.diagonal a.ints a.floats (omega arith) (omega arith) (omega arith)

pub returns-then-diagonal-rows : goal.returns-then-diagonal-rows
returns-then-diagonal-rows c = let a = c.args in wrong_diagonal a.a.now.rows (length a.a.now.values.now) a.size a.ids.now a.count a.diagonal a.ints a.floats (omega arith) (omega arith) (omega arith) c.if-diagonal-rows.true

pub returns-then-ids-rows : goal.returns-then-ids-rows
returns-then-ids-rows c = let a = c.args in other_ids a.a.now.rows (length a.a.now.values.now) a.size a.ids.now a.count a.diagonal a.ints a.floats (omega arith) (omega arith) (omega arith) c.if-diagonal-rows.false c.if-ids-rows.true

pub returns-then-reaches : goal.returns-then-reaches
returns-then-reaches c = let a = c.args in id_outside a.a.now.rows (length a.a.now.values.now) a.size a.ids.now a.count a.diagonal a.ints a.floats (omega arith) (omega arith) (omega arith) c.if-diagonal-rows.false c.if-ids-rows.false (sym c.reaches.ensures ∙ c.if-reaches.true)

pub returns : goal.returns
returns c = let a = c.args in groups_passed a.a.now.rows (length a.a.now.values.now) a.size a.ids.now a.count a.diagonal a.ints a.floats (omega arith) (omega arith) (omega arith) c.if-diagonal-rows.false c.if-ids-rows.false (sym c.reaches.ensures ∙ c.if-reaches.false)
