-- What each stage of setup promises of its answer and of the lists. A stage is a simulation: where the lists hold what is built so far, the answer is that of its definition,
-- and where that is done, the lists hold what is built then. The lists of a refused setup are cleared at one place, behind all stages.
use Rattle.std.specs.Prelude.{ℕ, ◌+◌, ◌-◌, ◌*◌, ◌<◌, ◌≤◌, ◌≡◌, Bool, List, [], ◌++◌, length, take, drop, replicate, Float, Err, Ok, Result}
use Rattle.definitions.specs.Lists.{padded, tab}
use Rattle.definitions.specs.Numbers.{zeroᶠ, largest}
use Rattle.definitions.specs.Refusal.{Outcome, refused, done, ◌>>=◌}
use Rattle.definitions.specs.Matrix.{Matrix, Entry}
use Rattle.definitions.specs.Diagonal.{diagonal_of}
use Rattle.definitions.specs.Estimate.{Estimate, estimate_of}
use Rattle.definitions.specs.Transfer.{coarse_column, transfer_of}
use Rattle.definitions.specs.Coarse.{packed_length, coarse_factor, coarse_part, inverse_of}
pub use Rattle.definitions.specs.Setup.{lent_of}
use Rattle.definitions.specs.Places.{Lengths, entry_needs, coarse_needs, covers}
use Rattle.definitions.specs.Setup.{Lent, max_coarse, transfer_floats}
use Rattle.definitions.specs.Answers.{answer_of, estimate_answer}
use Rattle.definitions.specs.declared.Options.{Options}
use Rattle.definitions.specs.declared.Setup.{Setup}
use Rattle.definitions.specs.declared.TwoLevelCoarseApplyPolicy.{TwoLevelCoarseApplyPolicy}
use Rattle.definitions.specs.declared.TwoLevelBasis.TheVariants.{JacobiSmoothed}
use Rattle.laws.specs.Every.{Each}
use Rattle.two_level_setup.specs.Stages.{Parts, ints_of, floats_of, parts_answer, filled, room_checked, transferred, matrix_of}
use Rattle.two_level_setup.specs.Fit.{room_of, Ample}
use Rattle.definitions.specs.declared.Refusal.{Refusal}
use Rattle.definitions.specs.declared.Estimated.{Estimated}

abbrev pub room_in : Lent → Lengths
room_in x = room_of (length x.ints) (length x.floats) (length x.work_ints) (length x.work_floats)

-- ---- the simulation

-- the four lists hold what is built: zeros after it, and in the work lists
pub record Holds (p : Parts) (x : Lent) : Type 0 where
  pub ints : x.ints ≡ padded 0 (length x.ints) (ints_of p)
  pub floats : x.floats ≡ padded zeroᶠ (length x.floats) (floats_of p)
  pub work_ints : x.work_ints ≡ replicate (length x.work_ints) 0
  pub work_floats : x.work_floats ≡ replicate (length x.work_floats) zeroᶠ

pub record Leaves (o : Outcome Parts) (r : (Result Setup Refusal)) (y : Lent) : Type 0 where
  pub answer : r ≡ parts_answer o
  pub left : (p : Parts) → o ≡ done p → Holds p y

abbrev pub Simulates : (Parts → Type 0) → (Parts → Outcome Parts) → Setup → Lent → (Result Setup Refusal) → Lent → Type 0
Simulates sound stage s x r y = (p : Parts) → p.setup ≡ s → sound p → Holds p x → Leaves (stage p) r y

-- a record that is handed on fits as the one before it did
abbrev pub StaysAmple : Matrix → Lengths → (Result Setup Refusal) → Type 0
StaysAmple a room r = (s : Setup) → r ≡ Ok s → Ample a s room

-- 13 with none, 18 with a coarse dimension c, and 17 and 18, of a matrix from its sizes
abbrev pub RoomFor : ℕ → ℕ → ℕ → ℕ → Lengths → Bool → Type 0
RoomFor rows entries block c room r = (a : Matrix) (o : Options) → a.rows ≡ rows → length a.values ≡ entries → o.block ≡ block → r ≡ covers room (coarse_needs c (entry_needs a o))

abbrev pub RoomAnswer : ℕ → ℕ → Setup → Lengths → (Result (Unit {0}) Refusal) → Type 0
RoomAnswer rows entries s room r = (a : Matrix) → a.rows ≡ rows → length a.values ≡ entries → r ≡ answer_of (room_checked a s room)

-- ---- what is known of what is built

-- behind the groups: factors and ids are as long as their places, and no coarse part stands yet
pub record Sound (a : Matrix) (p : Parts) : Type 0 where
  pub factors : length p.factors ≡ a.rows * p.setup.block
  pub ids : length p.ids ≡ p.setup.nodes
  pub below : Each (λ x. x < p.setup.groups) p.ids
  pub transfers : length (transfer_floats p.weights) ≡ p.setup.transfers
  pub coarse : p.coarse ≡ []

-- before the transfer
pub record Begun (a : Matrix) (p : Parts) : Type 0 where
  pub sound : Sound a p
  pub weights : p.weights ≡ []
  pub damping : p.setup.damping ≡ zeroᶠ

-- the transfer's rows, where the basis is smoothed: one for each row, its columns below the coarse dimension
pub record Weighted (rows c : ℕ) (weights : List (List Entry)) : Type 0 where
  pub many : length weights ≡ rows
  pub below : Each (λ row. Each (λ e. e.col < c) row) weights

-- behind the transfer
pub record Weighed (a : Matrix) (p : Parts) : Type 0 where
  pub sound : Sound a p
  pub weights : p.setup.basis ≡ JacobiSmoothed → Weighted a.rows p.setup.coarse p.weights

-- ---- the transfer

-- the diagonal stands behind the block factors, and the work floats are cleared again
pub record Damped (a : Matrix) (used : ℕ) (floats work : List Float) (r : (Result Estimated Refusal)) (floats' work' : List Float) : Type 0 where
  pub answer : r ≡ estimate_answer (diagonal_of a >>= (λ d. estimate_of a d))
  pub diagonal : (d : List Float) → diagonal_of a ≡ done d → (factors : List Float) → length factors ≡ used → floats ≡ padded zeroᶠ (length floats) factors → floats' ≡ padded zeroᶠ (length floats) (factors ++ d)
  pub clear : (d : List Float) (e : Estimate) → diagonal_of a ≡ done d → estimate_of a d ≡ done e → work ≡ replicate (length work) zeroᶠ → work' ≡ replicate (length work) zeroᶠ

-- the coarse column of each row, where each id is one
abbrev pub Listed : ℕ → List ℕ → List ℕ → List ℕ → Type 0
Listed size ids columns columns' = Each (λ g. g ≤ max_coarse) ids → columns' ≡ tab (coarse_column size ids) (length columns)

-- those behind the ids, and the work list cleared again
abbrev pub ColumnsPlaced : ℕ → ℕ → ℕ → List ℕ → List ℕ → List ℕ → List ℕ → Type 0
ColumnsPlaced size nodes rows ints work ints' work' =
    (ids : List ℕ) → ints ≡ padded 0 (length ints) ids → length ids ≡ nodes → Each (λ g. g ≤ max_coarse) ids → work ≡ replicate (length work) 0
    → (ints' ≡ padded 0 (length ints) (ids ++ tab (coarse_column size ids) rows)) × (work' ≡ replicate (length work) 0)

-- the front of a work list goes behind the front of a list, over what stood there if that is no longer, and is cleared
pub record MovedInts (at count : ℕ) (to from to' from' : List ℕ) : Type 0 where
  pub moved : (xs ys : List ℕ) → from ≡ padded 0 (length from) xs → length xs ≡ count → at + count ≤ length to → length ys ≤ count → drop at to ≡ padded 0 (length to - at) ys → to' ≡ take at to ++ padded 0 (length to - at) xs
  pub clear : (xs : List ℕ) → from ≡ padded 0 (length from) xs → length xs ≡ count → from' ≡ replicate (length from) 0

-- or over whatever stood there up to an end, with zeros behind it
pub record MovedFloats (at end count : ℕ) (to from to' from' : List Float) : Type 0 where
  pub moved : (xs : List Float) → from ≡ padded zeroᶠ (length from) xs → length xs ≡ count → at + count ≤ length to → drop end to ≡ replicate (length to - end) zeroᶠ → to' ≡ take at to ++ padded zeroᶠ (length to - at) xs
  pub clear : (xs : List Float) → from ≡ padded zeroᶠ (length from) xs → length xs ≡ count → from' ≡ replicate (length from) zeroᶠ

-- with the diagonal where the coarse part will stand
abbrev pub beside : Parts → List Float → Parts
beside p d = record { setup = p.setup; factors = p.factors; ids = p.ids; weights = p.weights; coarse = d }

-- the transfer's rows take the diagonal's place; their number is returned
pub record WeightsStage (a : Matrix) (s : Setup) (damping : Float) (x : Lent) (n : ℕ) (y : Lent) : Type 0 where
  pub few : n ≤ a.rows + length a.values
  pub rows : (p : Parts) (d : List Float) → p.setup ≡ s → Begun a p → length d ≡ a.rows → Holds (beside p d) x
      → (n ≡ length (transfer_floats (transfer_of a d damping s.block p.ids s.coarse))) × Holds (transferred p (record { damping = damping; weights = transfer_of a d damping s.block p.ids s.coarse })) y

-- ---- the coarse part

-- the coarse matrix goes to the front of the work floats
abbrev pub MatrixStage : Matrix → Setup → List ℕ → List Float → List ℕ → List Float → List ℕ → List Float → Type 0
MatrixStage a s ints floats work_ints work_floats workInts' workFloats' =
    (p : Parts) → p.setup ≡ s → Weighed a p → Holds p (lent_of ints floats work_ints work_floats) → (workInts' ≡ replicate (length work_ints) 0) × (workFloats' ≡ padded zeroᶠ (length work_floats) (matrix_of a p))

-- the inverse has taken the place of a packed factor that stands from a place on
pub record Inverted (c start : ℕ) (floats floats' : List Float) : Type 0 where
  pub part : (l : List Float) → drop start floats ≡ padded zeroᶠ (length floats - start) l → length l ≡ packed_length c → floats' ≡ take start floats ++ padded zeroᶠ (length floats - start) (inverse_of c l)

-- what is stored of such a factor
pub record Stored (policy : TwoLevelCoarseApplyPolicy) (c start : ℕ) (floats work floats' work' : List Float) : Type 0 where
  pub part : (l : List Float) → drop start floats ≡ padded zeroᶠ (length floats - start) l → length l ≡ packed_length c → floats' ≡ take start floats ++ padded zeroᶠ (length floats - start) (coarse_part policy c l)
  pub clear : work' ≡ replicate (length work) zeroᶠ

unfoldable pub factored_answer : Setup → Float → Outcome (List Float) → (Result Setup Refusal)
factored_answer s scale (done l) = Ok (filled s s.transfers s.damping scale s.complexity)
factored_answer s scale (refused r) = Err r

-- the factor of the coarse matrix that stands at the front of the work floats
pub record Factored (s : Setup) (start : ℕ) (floats work : List Float) (r : (Result Setup Refusal)) (floats' work' : List Float) : Type 0 where
  pub answer : r ≡ factored_answer s (largest (take (s.coarse * s.coarse) work)) (coarse_factor s.coarse (take (s.coarse * s.coarse) work))
  pub part : (l : List Float) → coarse_factor s.coarse (take (s.coarse * s.coarse) work) ≡ done l → floats' ≡ take start floats ++ padded zeroᶠ (length floats - start) (coarse_part s.policy s.coarse l)
  pub clear : (l : List Float) → coarse_factor s.coarse (take (s.coarse * s.coarse) work) ≡ done l → work' ≡ replicate (length work) zeroᶠ

-- ---- all four lists

pub record Zeroed (x y : Lent) : Type 0 where
  pub ints : y.ints ≡ replicate (length x.ints) 0
  pub floats : y.floats ≡ replicate (length x.floats) zeroᶠ
  pub work_ints : y.work_ints ≡ replicate (length x.work_ints) 0
  pub work_floats : y.work_floats ≡ replicate (length x.work_floats) zeroᶠ
