-- Each check that passes goes on to the next, and the first that fails keeps the list.
use mathlib.Core.Path.{◌≡◌, ap, ◌∙◌}
use Prim.Native.Nat.{◌*◌, ◌<◌, ◌≤◌}
use lib.ListN.{length}
use Rattle.std.proofs.lemmas.Result.{err_from_is_err_and}
use Rattle.definitions.specs.Refusal.{result_left}
use Rattle.definitions.specs.Numbers.{zeroᶠ}
use Rattle.definitions.specs.Block.{factors_of}
use Rattle.definitions.specs.Answers.{answer_of}
use Rattle.csr32.specs.Seen.{lent}
use Rattle.block_factor.proofs.Calling.{stopped, size_none, size_large, too_short, filled}
use Rattle.block_factor.proofs.blocks.Goals as goal
use Rattle.block_factor.proofs.blocks.Goals.{then-block_size-lt1-via-then-block_size-lt1, then-block_size-lt1-via-else-block_size-lt1+then-block_size-gt-MAX_BLOCK}

pub returns-in_err-a : goal.returns-in_err-a
returns-in_err-a c =
    let x = c.args in
    let p = err_from_is_err_and c.from_residual.result c.from_residual.ensures.1 in
    let z = stopped (lent x.a.now) x.block_size x.factors.now _ c.in_err-a.ensures in
    rw (p.1, p.2) (record { value = z.value; factors_after = z.factors_after })

pub returns-then-block_size-lt1 : goal.returns-then-block_size-lt1
returns-then-block_size-lt1 c =
    let x = c.args in
    elim c.then-block_size-lt1.branch [
      | then-block_size-lt1-via-then-block_size-lt1 w ↦
          let z = size_none (lent x.a.now) x.block_size x.factors.now c.in_ok-a.ensures.0 w.if-block_size-lt1.true in record { value = z.value; factors_after = z.factors_after }
      | then-block_size-lt1-via-else-block_size-lt1+then-block_size-gt-MAX_BLOCK w ↦
          let z = size_large (lent x.a.now) x.block_size x.factors.now c.in_ok-a.ensures.0 w.if-block_size-lt1.false w.if-block_size-gt-MAX_BLOCK.true in
          record { value = z.value; factors_after = z.factors_after }
    ]

pub returns-then-factors-a : goal.returns-then-factors-a
returns-then-factors-a c =
    let x = c.args in
    let e = c.in_ok-a.ensures in
    let rows : c.in_ok-a.a.rows ≡ x.a.now.rows = ap (λ m. m.rows) e.1 in
    let short : length x.factors.now < x.a.now.rows * x.block_size = rw rows at c.if-factors-a.true in
    let z = too_short (lent x.a.now) x.block_size x.factors.now e.0 c.if-block_size-lt1.false c.if-block_size-gt-MAX_BLOCK.false short in
    record { value = z.value; factors_after = z.factors_after }

pub returns : goal.returns
returns c =
    let x = c.args in
    let e = c.in_ok-a.ensures in
    let f = c.fill in
    let rows : c.in_ok-a.a.rows ≡ x.a.now.rows = ap (λ m. m.rows) e.1 in
    let long : x.a.now.rows * x.block_size ≤ length x.factors.now = rw rows at c.if-factors-a.false in
    let z = filled (lent x.a.now) x.block_size x.factors.now e.0 c.if-block_size-lt1.false c.if-block_size-gt-MAX_BLOCK.false long f.result f.new.factors
    (f.ensures.value ∙ ap (λ m. answer_of (factors_of m x.block_size)) e.1) (f.ensures.factors_after ∙ ap (λ m. result_left zeroᶠ (factors_of m x.block_size) x.factors.now) e.1) in
    record { value = z.value; factors_after = z.factors_after }
