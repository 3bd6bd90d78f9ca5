-- What stands between two pointers.
use native.Mathlib.Omega.{arith}
use mathlib.Core.List.{zip_with}
use Rattle.definitions.specs.Matrix.{row_of}
use Rattle.csr32.proofs.Parts.{row_past, part_cut}
use Rattle.csr32.proofs.rows.CompressedRows.row.Goals as goal

pub returns-then-self-i-clause-entries : goal.returns-then-self-i-clause-entries
unfolding zip_with
returns-then-self-i-clause-entries c = let s = c.args.self.now in row_past s.row_ptr.now s.col_idx.now s.values.now c.args.i (omega (arith, s.fits.long))

pub returns-clause-columns : goal.returns-clause-columns
returns-clause-columns c = let s = c.args.self.now in part_cut s.row_ptr.now c.args.i s.col_idx.now

pub returns-clause-values : goal.returns-clause-values
returns-clause-values c = let s = c.args.self.now in part_cut s.row_ptr.now c.args.i s.values.now

pub returns-clause-entries : goal.returns-clause-entries
unfolding row_of
returns-clause-entries c = let s = c.args.self.now in rw (part_cut s.row_ptr.now c.args.i s.col_idx.now, part_cut s.row_ptr.now c.args.i s.values.now)
