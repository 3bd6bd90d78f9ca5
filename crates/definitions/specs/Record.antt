-- The setup record as numbers, and back: document 02's order of a record's numbers, floats by their bits, policies numbered as the source lists them.
use Rattle.std.specs.Prelude.{ℕ, zero, suc, Bool, ◌&&◌, List, [], ◌∷◌, leb, length, get_or}
use Rattle.std.specs.Float.{binary64}
use Rattle.std.specs.Float.Ieee.{to_bits, of_bits}
use Rattle.definitions.specs.declared.Setup.{Setup}
use Rattle.definitions.specs.declared.TwoLevelAggregation.{TwoLevelAggregation}
use Rattle.definitions.specs.declared.TwoLevelAggregation.TheVariants.{Contiguous, Graph, StrongGraph}
use Rattle.definitions.specs.declared.TwoLevelBasis.{TwoLevelBasis}
use Rattle.definitions.specs.declared.TwoLevelBasis.TheVariants.{PiecewiseConstant, JacobiSmoothed}
use Rattle.definitions.specs.declared.TwoLevelCoarseApplyPolicy.{TwoLevelCoarseApplyPolicy}
use Rattle.definitions.specs.declared.TwoLevelCoarseApplyPolicy.TheVariants.{Auto, FactorSolve, ExplicitInverse}

-- ---- policies, numbered as the source lists them

unfoldable pub aggregation_number : TwoLevelAggregation → ℕ
aggregation_number Contiguous = 0
aggregation_number Graph = 1
aggregation_number StrongGraph = 2

unfoldable pub basis_number : TwoLevelBasis → ℕ
basis_number PiecewiseConstant = 0
basis_number JacobiSmoothed = 1

unfoldable pub policy_number : TwoLevelCoarseApplyPolicy → ℕ
policy_number Auto = 0
policy_number FactorSolve = 1
policy_number ExplicitInverse = 2

-- and back, for numbers that are policies
unfoldable pub are_policies : ℕ → ℕ → ℕ → Bool
are_policies aggregation basis policy = leb aggregation 2 && leb basis 1 && leb policy 2

unfoldable pub aggregation_of : ℕ → TwoLevelAggregation
aggregation_of zero = Contiguous
aggregation_of (suc zero) = Graph
aggregation_of (suc (suc n)) = StrongGraph

unfoldable pub basis_of : ℕ → TwoLevelBasis
basis_of zero = PiecewiseConstant
basis_of (suc n) = JacobiSmoothed

unfoldable pub policy_of : ℕ → TwoLevelCoarseApplyPolicy
policy_of zero = Auto
policy_of (suc zero) = FactorSolve
policy_of (suc (suc n)) = ExplicitInverse

-- ---- the record as numbers
unfoldable pub record_numbers : Setup → List ℕ
record_numbers s =
    s.rows ∷ s.entries ∷ s.block ∷ s.group ∷ s.nodes ∷ s.groups ∷ s.coarse ∷ s.transfers
    ∷ aggregation_number s.aggregation ∷ basis_number s.basis ∷ policy_number s.policy
    ∷ to_bits binary64 s.damping ∷ to_bits binary64 s.scale ∷ s.complexity ∷ s.baseline ∷ []

-- a record from its numbers
unfoldable pub record_of : List ℕ → Setup
record_of l = record {
  rows = get_or l 0 0;
  entries = get_or l 1 0;
  block = get_or l 2 0;
  group = get_or l 3 0;
  nodes = get_or l 4 0;
  groups = get_or l 5 0;
  coarse = get_or l 6 0;
  transfers = get_or l 7 0;
  aggregation = aggregation_of (get_or l 8 0);
  basis = basis_of (get_or l 9 0);
  policy = policy_of (get_or l 10 0);
  damping = of_bits binary64 (get_or l 11 0);
  scale = of_bits binary64 (get_or l 12 0);
  complexity = get_or l 13 0;
  baseline = get_or l 14 0;
}

-- a list that is a record: as many numbers, and policies among them
unfoldable pub is_record : List ℕ → Bool
is_record l = leb 15 (length l) && are_policies (get_or l 8 0) (get_or l 9 0) (get_or l 10 0)
