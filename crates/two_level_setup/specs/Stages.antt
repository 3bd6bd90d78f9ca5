-- What setup has built so far, and its stages on that, in setup's own order: blocks and groups, room for the coarse part, transfer, coarse part.
use Rattle.std.specs.Prelude.{ℕ, ◌+◌, ◌*◌, ◌/◌, List, [], ◌++◌, leb, Float, length, Err, Ok, Result}
use Rattle.definitions.specs.Lists.{square}
use Rattle.definitions.specs.Numbers.{zeroᶠ, largest, nonzeros}
use Rattle.definitions.specs.Refusal.{Outcome, Checked, refused, done, require, ◌>>=◌}
use Rattle.definitions.specs.Matrix.{Matrix, Entry}
use Rattle.definitions.specs.Block.{factors_of}
use Rattle.definitions.specs.Groups.{Grouping}
use Rattle.definitions.specs.Coarse.{averaged_square, coarse_factor, resolved, coarse_part}
use Rattle.definitions.specs.Places.{Lengths, entry_needs, coarse_needs, covers}
use Rattle.definitions.specs.Setup.{grouping_of, max_coarse, Transfer, transfer_for, coarse_entry, transfer_ints, transfer_floats, Built}
use Rattle.definitions.specs.declared.Setup.{Setup}
use Rattle.definitions.specs.declared.Options.{Options}
use Rattle.definitions.specs.declared.Refusal.TheVariants.{CoarseTooLarge, CoarseListTooShort}
use Rattle.definitions.specs.declared.Refusal.{Refusal}

-- ---- the record, which fills up

-- once the groups are known: no transfer yet, no coarse scale, and nothing coarse counted
unfoldable pub started : ℕ → ℕ → Options → ℕ → Setup
started rows entries o groups =
    let c = groups * o.block in
    record {
      rows = rows;
      entries = entries;
      block = o.block;
      group = o.group;
      nodes = rows / o.block;
      groups = groups;
      coarse = c;
      transfers = 0;
      aggregation = o.aggregation;
      basis = o.basis;
      policy = resolved o.policy c;
      damping = zeroᶠ;
      scale = zeroᶠ;
      complexity = entries;
      baseline = entries;
    }

-- with the transfer's two numbers, the coarse scale and the first count of the complexity
unfoldable pub filled : Setup → ℕ → Float → Float → ℕ → Setup
filled s transfers damping scale complexity = record {
  rows = s.rows;
  entries = s.entries;
  block = s.block;
  group = s.group;
  nodes = s.nodes;
  groups = s.groups;
  coarse = s.coarse;
  transfers = transfers;
  aggregation = s.aggregation;
  basis = s.basis;
  policy = s.policy;
  damping = damping;
  scale = scale;
  complexity = complexity;
  baseline = s.baseline;
}

-- the options that a record keeps; its policy is resolved
abbrev pub options_of : Setup → Options
options_of s = record { block = s.block; group = s.group; aggregation = s.aggregation; basis = s.basis; policy = s.policy }

-- ---- what is built so far

pub record Parts : Type 0 where
  pub setup : Setup
  pub factors : List Float
  pub ids : List ℕ
  pub weights : List (List Entry)
  pub coarse : List Float

-- what the two setup lists hold of it
abbrev pub ints_of : Parts → List ℕ
ints_of p = p.ids ++ transfer_ints p.setup.basis p.weights

abbrev pub floats_of : Parts → List Float
floats_of p = p.factors ++ transfer_floats p.weights ++ p.coarse

unfoldable pub built_of : Parts → Built
built_of p = record { setup = p.setup; ints = ints_of p; floats = floats_of p }

unfoldable pub parts_answer : Outcome Parts → (Result Setup Refusal)
parts_answer (done p) = Ok p.setup
parts_answer (refused r) = Err r

-- ---- the stages

-- block factors and groups: 14 to 16
unfoldable pub grouped : Matrix → Options → List Float → Grouping → Parts
grouped a o factors g = record { setup = started a.rows (length a.values) o g.count; factors = factors; ids = g.ids; weights = []; coarse = [] }

unfoldable pub fine_of : Matrix → Options → Outcome Parts
fine_of a o = factors_of a o.block >>= (λ factors. grouping_of o.aggregation a o >>= (λ g. done (grouped a o factors g)))

-- room for the coarse part: 17 and 18
unfoldable pub room_checked : Matrix → Setup → Lengths → Checked
room_checked a s room =
    require (leb s.coarse max_coarse) (CoarseTooLarge s.coarse) >>= (λ _. require (covers room (coarse_needs s.coarse (entry_needs a (options_of s)))) (CoarseListTooShort s.coarse))

-- the transfer: 19 to 22
unfoldable pub transferred : Parts → Transfer → Parts
transferred p t = record { setup = filled p.setup (length (transfer_floats t.weights)) t.damping p.setup.scale p.setup.complexity; factors = p.factors; ids = p.ids; weights = t.weights; coarse = p.coarse }

unfoldable pub transfer_stage : Matrix → Parts → Outcome Parts
transfer_stage a p = transfer_for p.setup.basis a p.setup.block p.ids p.setup.coarse >>= (λ t. done (transferred p t))

-- the coarse part: 23 and 24
unfoldable pub matrix_of : Matrix → Parts → List Float
matrix_of a p = averaged_square p.setup.coarse (square p.setup.coarse (coarse_entry p.setup.basis a p.setup.block p.ids p.weights))

-- the record with the coarse matrix's numbers that are not zero beside the entries
unfoldable pub measured : ℕ → Setup → List Float → Setup
measured entries s m = filled s s.transfers s.damping s.scale (entries + nonzeros m)

unfoldable pub stored : ℕ → Parts → List Float → List Float → Parts
stored entries p m factor = record {
  setup = filled p.setup p.setup.transfers p.setup.damping (largest m) (entries + nonzeros m);
  factors = p.factors;
  ids = p.ids;
  weights = p.weights;
  coarse = coarse_part p.setup.policy p.setup.coarse factor;
}

unfoldable pub coarse_stage : Matrix → Parts → Outcome Parts
coarse_stage a p = coarse_factor p.setup.coarse (matrix_of a p) >>= (λ factor. done (stored (length a.values) p (matrix_of a p) factor))

-- ---- put together

unfoldable pub coarse_level_of : Matrix → Lengths → Parts → Outcome Parts
coarse_level_of a room p = room_checked a p.setup room >>= (λ _. transfer_stage a p >>= (λ q. coarse_stage a q))

unfoldable pub build_of : Matrix → Options → Lengths → Outcome Parts
build_of a o room = fine_of a o >>= (λ p. coarse_level_of a room p)

-- what setup is behind 1 to 13
unfoldable pub built_for : Matrix → Options → Lengths → Outcome Built
built_for a o room = build_of a o room >>= (λ p. done (built_of p))
