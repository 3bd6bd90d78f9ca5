-- Each return is one test of the definition.
use native.Mathlib.Omega.{arith}
use lib.ListN.{length}
use Rattle.transfer.proofs.Checking.{not_square, size_none, size_large, not_multiple, ints_short, floats_short, shape_passed}
use Rattle.transfer.proofs.checks.shape.Goals as goal

pub returns-then-a-rows : goal.returns-then-a-rows
returns-then-a-rows c = let a = c.args in not_square a.a.now.rows a.a.now.cols (length a.a.now.values.now) a.size a.ints a.floats c.if-a-rows.true

pub returns-then-size-lt1 : goal.returns-then-size-lt1
returns-then-size-lt1 c = let a = c.args in size_none a.a.now.rows a.a.now.cols (length a.a.now.values.now) a.size a.ints a.floats c.if-a-rows.false c.if-size-lt1.true

pub returns-then-size-gt-MAX_BLOCK : goal.returns-then-size-gt-MAX_BLOCK
returns-then-size-gt-MAX_BLOCK c = let a = c.args in size_large a.a.now.rows a.a.now.cols (length a.a.now.values.now) a.size a.ints a.floats c.if-a-rows.false c.if-size-lt1.false c.if-size-gt-MAX_BLOCK.true

pub returns-then-rows-size-ne0 : goal.returns-then-rows-size-ne0
returns-then-rows-size-ne0 c = let a = c.args in not_multiple a.a.now.rows a.a.now.cols (length a.a.now.values.now) a.size a.ints a.floats c.if-a-rows.false c.if-size-lt1.false c.if-size-gt-MAX_BLOCK.false c.if-rows-size-ne0.true

pub returns-then-ints-rows : goal.returns-then-ints-rows
returns-then-ints-rows c = let a = c.args in ints_short a.a.now.rows a.a.now.cols (length a.a.now.values.now) a.size a.ints a.floats c.if-a-rows.false c.if-size-lt1.false c.if-size-gt-MAX_BLOCK.false c.if-rows-size-ne0.false (omega arith)

pub returns-then-floats-rows : goal.returns-then-floats-rows
returns-then-floats-rows c = let a = c.args in floats_short a.a.now.rows a.a.now.cols (length a.a.now.values.now) a.size a.ints a.floats c.if-a-rows.false c.if-size-lt1.false c.if-size-gt-MAX_BLOCK.false c.if-rows-size-ne0.false (omega arith) (omega arith)

pub returns : goal.returns
returns c = let a = c.args in shape_passed a.a.now.rows a.a.now.cols (length a.a.now.values.now) a.size a.ints a.floats c.if-a-rows.false c.if-size-lt1.false c.if-size-gt-MAX_BLOCK.false c.if-rows-size-ne0.false (omega arith) (omega arith)
