-- The premises can be met: diag(16,4) under Graph, group size 1, with only the diagonal stored, the first node as the part, and the residuals (16,4) and (16,40).
use mathlib.Core.Bool.{Bool}
use mathlib.Core.List.{List, [], ◌∷◌, flat_map}
use Prim.Native.Nat.{ℕ}
use lib.Dec.{T, eqb}
use lib.Ieee.{Float}
use Rattle.definitions.specs.Lists.{pointers_from}
use Rattle.definitions.specs.Numbers.{ofℕ}
use Rattle.definitions.specs.Matrix.{Matrix}
use Rattle.definitions.specs.Setup.{setup_of}
use Rattle.definitions.specs.Apply.{corrected, ample}
use Rattle.definitions.specs.Separation.{Apart, is_done, agreeing}
use Rattle.definitions.proofs.Examples.{proved_hold}
use Rattle.definitions.specs.declared.Options.{Options}
use Rattle.definitions.specs.declared.TwoLevelAggregation.TheVariants.{Graph}
use Rattle.definitions.specs.declared.TwoLevelBasis.TheVariants.{PiecewiseConstant}
use Rattle.definitions.specs.declared.TwoLevelCoarseApplyPolicy.TheVariants.{Auto}
use Rattle.separation.proofs.Theorem.{separation}

abbrev diagonal : Matrix
diagonal = record { rows = 2; cols = 2; row_ptr = 0 ∷ 1 ∷ 2 ∷ []; col_idx = 0 ∷ 1 ∷ []; values = ofℕ 16 ∷ ofℕ 4 ∷ [] }

abbrev options : Options
options = record { block = 1; group = 1; aggregation = Graph; basis = PiecewiseConstant; policy = Auto }

abbrev first_node : ℕ → Bool
first_node v = eqb v 0

abbrev load : ℕ → List Float
load y = ofℕ 16 ∷ ofℕ y ∷ []

premises : Apart diagonal options first_node (load 4) (load 40)
unfolding pointers_from flat_map
premises = proved_hold.1

accepted : T (is_done (setup_of diagonal options ample))
unfolding pointers_from flat_map
accepted = proved_hold.2

-- so the two corrections agree on the first row, whatever computing them would show
pub diagonal_apart : T (agreeing first_node 1 2 (corrected diagonal options (load 4)) (corrected diagonal options (load 40)))
diagonal_apart = separation diagonal options first_node (load 4) (load 40) premises accepted
