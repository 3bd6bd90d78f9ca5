-- Each check that passes goes on to the next, and the first that fails gives its cause.
use Rattle.definitions.specs.Matrix.{csr, structure_of}
use Rattle.csr32.proofs.Causes.{causes, shape_passed}
use mathlib.Core.Path.{refl}
use Rattle.csr32.proofs.matrix.Csr.structure.Goals as goal

pub returns-then-rows-gt-MAX_ROWS : goal.returns-then-rows-gt-MAX_ROWS
unfolding structure_of
returns-then-rows-gt-MAX_ROWS c = search causes depth 14

pub returns-then-cols-gt-MAX_ROWS : goal.returns-then-cols-gt-MAX_ROWS
unfolding structure_of
returns-then-cols-gt-MAX_ROWS c = search causes depth 14

pub returns-then-values-gt-MAX_ENTRIES : goal.returns-then-values-gt-MAX_ENTRIES
unfolding structure_of
returns-then-values-gt-MAX_ENTRIES c = search causes depth 14

pub returns-then-row_ptr-rows : goal.returns-then-row_ptr-rows
unfolding structure_of
returns-then-row_ptr-rows c = search causes depth 14

pub returns-then-col_idx-values : goal.returns-then-col_idx-values
unfolding structure_of
returns-then-col_idx-values c = search causes depth 14

pub returns-then-row_ptr-ne0 : goal.returns-then-row_ptr-ne0
unfolding structure_of
returns-then-row_ptr-ne0 c = search causes depth 14

pub returns-then-row_ptr-rows-2 : goal.returns-then-row_ptr-rows-2
unfolding structure_of
returns-then-row_ptr-rows-2 c = search causes depth 14

pub returns-then-falls : goal.returns-then-falls
returns-then-falls c =
    let a = c.args.self.now in
    shape_passed (csr a.rows a.cols a.row_ptr.now a.col_idx.now a.values.now) _ _
    c.if-rows-gt-MAX_ROWS.false c.if-cols-gt-MAX_ROWS.false c.if-values-gt-MAX_ENTRIES.false c.if-row_ptr-rows.false c.if-col_idx-values.false c.if-row_ptr-ne0.false refl c.if-row_ptr-rows-2.false
    (search causes depth 14)

pub returns-then-reaches : goal.returns-then-reaches
returns-then-reaches c =
    let a = c.args.self.now in
    shape_passed (csr a.rows a.cols a.row_ptr.now a.col_idx.now a.values.now) _ _
    c.if-rows-gt-MAX_ROWS.false c.if-cols-gt-MAX_ROWS.false c.if-values-gt-MAX_ENTRIES.false c.if-row_ptr-rows.false c.if-col_idx-values.false c.if-row_ptr-ne0.false refl c.if-row_ptr-rows-2.false
    (search causes depth 14)

pub returns : goal.returns
returns c =
    let a = c.args.self.now in
    shape_passed (csr a.rows a.cols a.row_ptr.now a.col_idx.now a.values.now) _ _
    c.if-rows-gt-MAX_ROWS.false c.if-cols-gt-MAX_ROWS.false c.if-values-gt-MAX_ENTRIES.false c.if-row_ptr-rows.false c.if-col_idx-values.false c.if-row_ptr-ne0.false refl c.if-row_ptr-rows-2.false
    (search causes depth 14)
