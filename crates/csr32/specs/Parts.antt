-- One row of compressed rows.
use Rattle.std.specs.Prelude.{ℕ, suc, List, get_or, Float}
use mathlib.Core.List.{zip_with}
use Rattle.std.proofs.Math.Seq.{slice}
use Rattle.definitions.specs.Matrix.{Entry}

-- the elements of a list from where row i begins up to where the next one begins
abbrev pub part : {A : Type 0} → List ℕ → ℕ → List A → List A
part ptr i l = slice (get_or ptr i 0) (get_or ptr (suc i) 0) l

-- columns and values side by side
abbrev pub entries : List ℕ → List Float → List Entry
entries idx vals = zip_with (λ c v. record { col = c; value = v }) idx vals
