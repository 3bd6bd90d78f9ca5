use native.Mathlib.Omega.{arith}
use Rattle.block_apply.proofs.Calling.{wrong_residual, wrong_correction, misfit, applied}
use borrow.Author.Rules.{rules}
use Rattle.block_apply.proofs.block_apply.Goals as goal

pub returns-then-residual-rows : goal.returns-then-residual-rows
returns-then-residual-rows c = let a = c.args in
    let z = wrong_residual a.rows a.block_size a.factors.now a.residual.now a.correction.now c.if-residual-rows.true in record { value = z.0; correction_after = z.1 }

pub returns-then-correction-rows : goal.returns-then-correction-rows
returns-then-correction-rows c = let a = c.args in
    let z = wrong_correction a.rows a.block_size a.factors.now a.residual.now a.correction.now (search rules) c.if-correction-rows.true in record { value = z.0; correction_after = z.1 }

pub returns-then-known : goal.returns-then-known
returns-then-known c =
    let a = c.args in
    let k = c.fits-known in
    let u = c.solve_blocks in
    let z = applied a.rows a.block_size a.factors.now a.residual.now a.correction.now c.if-residual-rows.false c.if-correction-rows.false k.result k.ensures c.if-known.true u.new.z (omega arith) u.ensures in record { value = z.0; correction_after = z.1 }

pub returns : goal.returns
returns c =
    let a = c.args in
    let k = c.fits-known in
    let z = misfit a.rows a.block_size a.factors.now a.residual.now a.correction.now c.if-residual-rows.false c.if-correction-rows.false k.result k.ensures c.if-known.false in record { value = z.0; correction_after = z.1 }
