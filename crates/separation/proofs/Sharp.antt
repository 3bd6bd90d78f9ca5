-- Three premises that cannot be left out (Graph or StrongGraph, no link, finite numbers), and why the sign of a zero is not compared: with all premises met it can differ. Each row is computed.
use mathlib.Core.Path.{◌≡◌, refl}
use mathlib.Core.Bool.{Bool, true, false}
use mathlib.Core.List.{List, [], ◌∷◌}
use Prim.Native.Nat.{ℕ, ◌+◌, ◌^◌}
use lib.Dec.{eqb}
use lib.ListN.{get_or}
use lib.Ieee.{Float, nan, inf, neg, binary64, of_bits, to_bits}
use Rattle.definitions.specs.Numbers.{ofℕ}
use Rattle.definitions.specs.Refusal.{Outcome, refused, done}
use Rattle.definitions.specs.Matrix.{Matrix}
use Rattle.definitions.specs.Links.{unconnected}
use Rattle.definitions.specs.Setup.{setup_of}
use Rattle.definitions.specs.Apply.{corrected, ample}
use Rattle.definitions.specs.Formed.{formed, all_finite}
use Rattle.definitions.specs.Separation.{agree, follows_graph, is_done, agreeing}
use Rattle.definitions.proofs.Opened.{all_open}
use Rattle.definitions.specs.declared.Options.{Options}
use Rattle.definitions.specs.declared.TwoLevelAggregation.{TwoLevelAggregation}
use Rattle.definitions.specs.declared.TwoLevelAggregation.TheVariants.{Contiguous, Graph}
use Rattle.definitions.specs.declared.TwoLevelBasis.TheVariants.{PiecewiseConstant}
use Rattle.definitions.specs.declared.TwoLevelCoarseApplyPolicy.TheVariants.{FactorSolve}

abbrev two : List ℕ → List ℕ → List Float → Matrix
two ptr idx vals = record { rows = 2; cols = 2; row_ptr = ptr; col_idx = idx; values = vals }

abbrev diagonal : ℕ → ℕ → Matrix
diagonal x y = two (0 ∷ 1 ∷ 2 ∷ []) (0 ∷ 1 ∷ []) (ofℕ x ∷ ofℕ y ∷ [])

abbrev coupled : Matrix
coupled = two (0 ∷ 2 ∷ 4 ∷ []) (0 ∷ 1 ∷ 0 ∷ 1 ∷ []) (ofℕ 16 ∷ neg (ofℕ 14) ∷ neg (ofℕ 14) ∷ ofℕ 16 ∷ [])

abbrev by : TwoLevelAggregation → ℕ → Options
by g size = record { block = 1; group = size; aggregation = g; basis = PiecewiseConstant; policy = FactorSolve }

abbrev first_node : ℕ → Bool
first_node v = eqb v 0

-- the premises Graph or StrongGraph, accepted, unconnected, equal residuals on the part, finite in both runs; then the conclusion
abbrev tests : Matrix → Options → List Float → List Float → List Bool
tests a o r r' =
    follows_graph o.aggregation ∷ is_done (setup_of a o ample) ∷ unconnected a o.block [] first_node ∷ agree first_node o.block a.rows r r'
    ∷ all_finite (formed a o r) ∷ all_finite (formed a o r') ∷ agreeing first_node o.block a.rows (corrected a o r) (corrected a o r') ∷ []

pub contiguous_mixes : tests (diagonal 16 9) (by Contiguous 2) (ofℕ 16 ∷ ofℕ 9 ∷ []) (ofℕ 16 ∷ ofℕ 34 ∷ []) ≡ false ∷ true ∷ true ∷ true ∷ true ∷ true ∷ false ∷ []
unfolding all_open
contiguous_mixes = refl

pub entries_couple : tests coupled (by Graph 1) (ofℕ 16 ∷ ofℕ 16 ∷ []) (ofℕ 16 ∷ ofℕ 32 ∷ []) ≡ true ∷ true ∷ false ∷ true ∷ true ∷ true ∷ false ∷ []
unfolding all_open
entries_couple = refl

pub infinity_spreads : tests (diagonal 16 4) (by Graph 1) (ofℕ 16 ∷ ofℕ 4 ∷ []) (ofℕ 16 ∷ inf false ∷ []) ≡ true ∷ true ∷ true ∷ true ∷ true ∷ false ∷ false ∷ []
unfolding all_open
infinity_spreads = refl

-- ---- with every premise met, the first row is -0 in one run and +0 in the other: diag(1e10, 4) and the residuals (-2024 · 2^-1074, ±1)

abbrev tiny : Float
tiny = of_bits binary64 (2 ^ 63 + 2024)

abbrev first_bits : Outcome (List Float) → ℕ
first_bits (refused c) = 0
first_bits (done z) = to_bits binary64 (get_or z 0 nan)

abbrev wide : Matrix
wide = diagonal 10_000_000_000 4

pub signs_met : tests wide (by Graph 1) (tiny ∷ ofℕ 1 ∷ []) (tiny ∷ neg (ofℕ 1) ∷ []) ≡ true ∷ true ∷ true ∷ true ∷ true ∷ true ∷ true ∷ []
unfolding all_open
signs_met = refl

pub signs_differ : (first_bits (corrected wide (by Graph 1) (tiny ∷ ofℕ 1 ∷ [])) ∷ first_bits (corrected wide (by Graph 1) (tiny ∷ neg (ofℕ 1) ∷ [])) ∷ []) ≡ 0x8000_0000_0000_0000 ∷ 0 ∷ []
unfolding all_open
signs_differ = refl
