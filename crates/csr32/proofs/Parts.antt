-- One row of compressed rows: cut out of the lists, and of a row that is not there.
use Prim.Native.Nat.{ℕ, zero, suc, ◌+◌, ◌-◌, ◌≤◌}
use native.Mathlib.Numerals.{add-one}
use mathlib.Core.Path.{◌≡◌, refl}
use mathlib.Core.List.{List, [], zip_with}
use lib.ListN.{length, get_or, take, drop}
use lib.Ieee.{Float}
use Rattle.std.proofs.lemmas.List.{get_or_past}
use Rattle.definitions.specs.Matrix.{Matrix, row_of}
use Rattle.laws.specs.Bounds.{Compressed}
use Rattle.laws.proofs.Lists.{take_drop}
use Rattle.csr32.specs.Parts.{part}
use Rattle.csr32.specs.Rows.{Rows}

none_left : {A : Type 0} (n : ℕ) (l : List A) → drop n (take 0 l) ≡ []
none_left zero l = refl
none_left (suc n) l = refl

part_past : {A : Type 0} (ptr : List ℕ) (i : ℕ) (l : List A) → length ptr ≤ suc i → part ptr i l ≡ []
part_past ptr i l h = rw (get_or_past ptr (suc i) 0 h) (none_left (get_or ptr i 0) l)

-- what stands between two pointers
pub part_cut : {A : Type 0} (ptr : List ℕ) (i : ℕ) (l : List A) → take (get_or ptr (i + 1) 0 - get_or ptr i 0) (drop (get_or ptr i 0) l) ≡ part ptr i l
part_cut ptr i l = rw (add-one i) (take_drop (get_or ptr i 0) (get_or ptr (suc i) 0) l)

pub row_past : (ptr idx : List ℕ) (vals : List Float) (i : ℕ) → length ptr ≤ suc i → [] ≡ row_of ptr idx vals i
unfolding row_of zip_with
row_past ptr idx vals i h = rw (part_past ptr i idx h)

-- an accepted matrix
pub compressed : (a : Matrix) → Rows a → Compressed a.rows a.cols a.row_ptr a.col_idx (length a.values)
compressed a r = record { long = r.long; rises = r.rises; ends = r.ends; same = r.same; within = r.within }
