-- Setup: the checks and stages in their order, the record, and what the four lists hold afterwards.
use Rattle.std.specs.Prelude.{ℕ, ◌+◌, ◌*◌, ◌%◌, ◌&&◌, leb, ltb, eqb, length, get_or, Float}
use mathlib.Core.List.{List, [], ◌++◌, map, flat_map}
use Rattle.definitions.specs.Lists.{square, pointers_from}
use Rattle.definitions.specs.Numbers.{zeroᶠ, largest, nonzeros}
use Rattle.definitions.specs.Refusal.{Outcome, Checked, done, require, ◌>>=◌, result_left, work_left}
use Rattle.definitions.specs.Matrix.{Matrix, Entry, valid_of}
use Rattle.definitions.specs.Diagonal.{diagonal_of}
use Rattle.definitions.specs.Block.{max_block, factors_of}
use Rattle.definitions.specs.Neighbours.{neighbour_lists}
use Rattle.definitions.specs.Groups.{Grouping, graph_grouping, contiguous_grouping, no_anchor, max_group}
use Rattle.definitions.specs.Estimate.{estimate_of}
use Rattle.definitions.specs.Transfer.{coarse_column, transfer_of}
use Rattle.definitions.specs.Coarse.{constant_entry, galerkin_entry, averaged_square, coarse_factor, resolved, coarse_part}
use Rattle.definitions.specs.Places.{Lengths, node_count, entry_needs, coarse_needs, covers}
use Rattle.definitions.specs.declared.Setup.{Setup}
use Rattle.definitions.specs.declared.Options.{Options}
use Rattle.definitions.specs.declared.TwoLevelAggregation.{TwoLevelAggregation}
use Rattle.definitions.specs.declared.TwoLevelAggregation.TheVariants.{Contiguous, Graph, StrongGraph}
use Rattle.definitions.specs.declared.TwoLevelBasis.{TwoLevelBasis}
use Rattle.definitions.specs.declared.TwoLevelBasis.TheVariants.{PiecewiseConstant, JacobiSmoothed}
use Rattle.definitions.specs.declared.Refusal.TheVariants.{NotSquare, BlockSize, GroupSize, NotMultiple, ListTooShort, NoNode, CoarseTooLarge, CoarseListTooShort}

-- ---- stages

-- 1 to 12
unfoldable pub front_of : Matrix → Options → Checked
front_of a o = do
  _ ← valid_of a
  _ ← require (eqb a.cols a.rows) NotSquare
  _ ← require (leb 1 o.block && leb o.block max_block) BlockSize
  _ ← require (leb 1 o.group && leb o.group max_group) GroupSize
  require (eqb (a.rows % o.block) 0) NotMultiple

-- 16, then the grouping by the nodes' lists
unfoldable pub graph_of : List (List ℕ) → ℕ → ℕ → Outcome Grouping
graph_of lists nodes size = require (ltb 0 nodes) NoNode >>= (λ _. done (graph_grouping (λ v. get_or lists v []) no_anchor nodes size))

unfoldable pub grouping_of : TwoLevelAggregation → Matrix → Options → Outcome Grouping
grouping_of Contiguous a o = done (contiguous_grouping (node_count a o) o.group)
grouping_of Graph a o = graph_of (neighbour_lists Graph a o.block (node_count a o)) (node_count a o) o.group
grouping_of StrongGraph a o = graph_of (neighbour_lists StrongGraph a o.block (node_count a o)) (node_count a o) o.group

-- the limit of the coarse dimension
abbrev pub max_coarse : ℕ
max_coarse = 2_048

-- the transfer: its damping factor and, smoothed, the weights of each row
pub record Transfer : Type 0 where
  pub damping : Float
  pub weights : List (List Entry)

-- 19 to 22, where the basis is smoothed
unfoldable pub transfer_for : TwoLevelBasis → Matrix → ℕ → List ℕ → ℕ → Outcome Transfer
transfer_for PiecewiseConstant a size ids c = done (record { damping = zeroᶠ; weights = [] })
transfer_for JacobiSmoothed a size ids c = do
  d ← diagonal_of a
  e ← estimate_of a d
  done (record { damping = e.damping; weights = transfer_of a d e.damping size ids c })

-- the coarse matrix by element, and as a list, before it is averaged with its transpose
unfoldable pub coarse_entry : TwoLevelBasis → Matrix → ℕ → List ℕ → List (List Entry) → ℕ → ℕ → Float
coarse_entry PiecewiseConstant a size ids weights = constant_entry a (coarse_column size ids)
coarse_entry JacobiSmoothed a size ids weights = galerkin_entry a (λ r. get_or weights r [])

unfoldable pub coarse_matrix : Matrix → Options → Grouping → Transfer → List Float
coarse_matrix a o g t = square (g.count * o.block) (coarse_entry o.basis a o.block g.ids t.weights)

-- the transfer's integers: pointers, then columns
unfoldable pub transfer_ints : TwoLevelBasis → List (List Entry) → List ℕ
transfer_ints PiecewiseConstant weights = []
transfer_ints JacobiSmoothed weights = pointers_from 0 weights ++ flat_map (λ row. map (λ e. e.col) row) weights

unfoldable pub transfer_floats : List (List Entry) → List Float
transfer_floats weights = flat_map (λ row. map (λ e. e.value) row) weights

-- ---- the result: the record, and the used elements of the two setup lists

pub record Built : Type 0 where
  pub setup : Setup
  pub ints : List ℕ
  pub floats : List Float

unfoldable pub built_from : Matrix → Options → List Float → Grouping → Transfer → List Float → List Float → Built
built_from a o factors g t m factor =
    let c = g.count * o.block in
    let e = length a.values in
    let values = transfer_floats t.weights in
    let policy = resolved o.policy c in
    record {
      setup = record {
        rows = a.rows;
        entries = e;
        block = o.block;
        group = o.group;
        nodes = node_count a o;
        groups = g.count;
        coarse = c;
        transfers = length values;
        aggregation = o.aggregation;
        basis = o.basis;
        policy = policy;
        damping = t.damping;
        scale = largest m;
        complexity = e + nonzeros m;
        baseline = e;
      };
      ints = g.ids ++ transfer_ints o.basis t.weights;
      floats = factors ++ values ++ coarse_part policy c factor;
    }

-- SETUP: the first cause met, or what is built. 13 and 18 look at the lengths of the four lists, and nothing else does
unfoldable pub setup_of : Matrix → Options → Lengths → Outcome Built
setup_of a o room = do
  _ ← front_of a o
  _ ← require (covers room (entry_needs a o)) ListTooShort
  factors ← factors_of a o.block
  g ← grouping_of o.aggregation a o
  c ← done (g.count * o.block)
  _ ← require (leb c max_coarse) (CoarseTooLarge c)
  _ ← require (covers room (coarse_needs c (entry_needs a o))) (CoarseListTooShort c)
  t ← transfer_for o.basis a o.block g.ids c
  m ← done (averaged_square c (coarse_matrix a o g t))
  factor ← coarse_factor c m
  done (built_from a o factors g t m factor)

-- ---- the four lists afterwards

pub record Lent : Type 0 where
  pub ints : List ℕ
  pub floats : List Float
  pub work_ints : List ℕ
  pub work_floats : List Float

abbrev pub lent_of : List ℕ → List Float → List ℕ → List Float → Lent
lent_of ints floats work_ints work_floats = record { ints = ints; floats = floats; work_ints = work_ints; work_floats = work_floats }

unfoldable pub lengths_of : Lent → Lengths
lengths_of x = record { ints = length x.ints; floats = length x.floats; work_ints = length x.work_ints; work_floats = length x.work_floats }

-- accepted: the used elements with zeros after them, and work lists of zeros; refused: all kept, or from 14 on all zero
unfoldable pub setup_left : Outcome Built → Lent → Lent
setup_left b x = record {
  ints = result_left 0 (b >>= (λ y. done y.ints)) x.ints;
  floats = result_left zeroᶠ (b >>= (λ y. done y.floats)) x.floats;
  work_ints = work_left 0 b x.work_ints;
  work_floats = work_left zeroᶠ b x.work_floats;
}
