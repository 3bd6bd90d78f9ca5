-- The worked examples, computed by antt beside what is expected. `proved` has document 01's cases marked ◆, in one table with the one theorem `proved_hold`;
-- `tried` its other examples; `logs` those of the joining log; `complexities` those of the operator complexity; `orders` orders and lengths that no example shows.
use Prim.Native.Nat.{ℕ, zero, suc, ◌+◌, ◌*◌}
use Prim.Native.Char.{code}
use Prim.Native.String.{String}
use mathlib.Core.Path.{◌≡◌, refl}
use mathlib.Core.Bool.{true, false}
use mathlib.Core.List.{List, [], ◌∷◌, ◌++◌, map, flat_map}
use lib.Dec.{T, eqb, ltb}
use lib.ListN.{length, replicate}
use lib.Ieee.{Float, binary64, nan, neg, of_bits, to_bits}
use Rattle.definitions.specs.Lists.{tab, pointers_from}
use Rattle.definitions.specs.Numbers.{rootᶠ, ofℕ, nonzeros}
use Rattle.definitions.specs.Refusal.{Outcome, refused, done, ◌>>=◌, number_of, values_of}
use Rattle.definitions.specs.Matrix.{Matrix, Entry}
use Rattle.definitions.specs.Block.{blocks_call, block_apply_call}
use Rattle.definitions.specs.Groups.{Grouping, grouping_call}
use Rattle.definitions.specs.JoiningLog.{Logged, grouping_log_call, log_left}
use Rattle.definitions.specs.Setup.{Built, setup_of}
use Rattle.definitions.specs.Apply.{corrected, apply_call, ample}
use Rattle.definitions.specs.Text.{program}
use Rattle.definitions.specs.Separation.{Apart, is_done}
use Rattle.definitions.proofs.Opened.{all_open}
use Rattle.definitions.specs.declared.Options.{Options}
use Rattle.definitions.specs.declared.Setup.{Setup}
use Rattle.definitions.specs.declared.TwoLevelAggregation.{TwoLevelAggregation}
use Rattle.definitions.specs.declared.TwoLevelAggregation.TheVariants.{Contiguous, Graph, StrongGraph}
use Rattle.definitions.specs.declared.TwoLevelBasis.{TwoLevelBasis}
use Rattle.definitions.specs.declared.TwoLevelBasis.TheVariants.{PiecewiseConstant, JacobiSmoothed}
use Rattle.definitions.specs.declared.TwoLevelCoarseApplyPolicy.{TwoLevelCoarseApplyPolicy}
use Rattle.definitions.specs.declared.TwoLevelCoarseApplyPolicy.TheVariants.{Auto, FactorSolve}

-- ---- writing examples down

-- the bits of floats, behind a 0; a refusal's number and values
abbrev shown : Outcome (List Float) → List ℕ
shown (refused r) = number_of r ∷ values_of r
shown (done xs) = 0 ∷ map (λ x. to_bits binary64 x) xs

abbrev ids_shown : Outcome Grouping → List ℕ
ids_shown (refused r) = number_of r ∷ values_of r
ids_shown (done g) = 0 ∷ g.ids

-- a text by its bytes
bytes : String → List ℕ
bytes Prim.Native.String.[] = []
bytes (Prim.Native.String.◌∷◌ c s) = code c ∷ bytes s

abbrev floats : List ℕ → List Float
floats ns = map (λ n. ofℕ n) ns

abbrev answer : List Float → List ℕ
answer xs = shown (done xs)

-- what each node lists, as offsets and neighbours
abbrev grouped : ℕ → List (List ℕ) → List ℕ
grouped size lists =
    let n = length lists in
    let neighbours = flat_map (λ l. l) lists in
    ids_shown (grouping_call n size (tab (λ v. length (flat_map (λ l. l) (lib.ListN.take v lists))) (suc n)) neighbours n (8 * n + 4 * length neighbours + 16))

-- `count` nodes from `first` on, each of which lists those beside it
abbrev path : ℕ → ℕ → List (List ℕ)
path first count = tab (λ i. elim i [ zero ↦ [] | suc k ↦ (first + k) ∷ [] ] ++ elim (ltb (suc i) count) [ true ↦ (first + suc i) ∷ [] | false ↦ [] ]) count

abbrev at : ℕ → Float → Entry
at c v = record { col = c; value = v }

abbrev matrix : List (List Entry) → Matrix
matrix rows = record { rows = length rows; cols = length rows; row_ptr = pointers_from 0 rows; col_idx = flat_map (λ row. map (λ e. e.col) row) rows; values = flat_map (λ row. map (λ e. e.value) row) rows }

abbrev diag2 : ℕ → ℕ → Matrix
diag2 x y = matrix ((at 0 (ofℕ x) ∷ []) ∷ (at 1 (ofℕ y) ∷ []) ∷ [])

abbrev options : TwoLevelAggregation → TwoLevelBasis → ℕ → Options
options g b size = record { block = 1; group = size; aggregation = g; basis = b; policy = Auto }

abbrev blocks : ℕ → Matrix → List ℕ
blocks size a = shown (blocks_call a size (a.rows * size))

-- the block factor and the solve with it
abbrev block_solved : ℕ → Matrix → List Float → List ℕ
block_solved size a r = shown (blocks_call a size (a.rows * size) >>= (λ l. block_apply_call a.rows size l r a.rows))

-- ---- the tables

pub record Case : Type 0 where
  pub computed : List ℕ
  pub expected : List ℕ

abbrev is : List ℕ → List ℕ → Case
is x y = record { computed = x; expected = y }

four : Matrix
four = matrix ((at 0 (ofℕ 4) ∷ at 1 (ofℕ 2) ∷ []) ∷ (at 0 (ofℕ 2) ∷ at 1 (ofℕ 5) ∷ []) ∷ [])

sixteen : Matrix
sixteen = matrix ((at 0 (ofℕ 16) ∷ at 1 (neg (ofℕ 14)) ∷ []) ∷ (at 0 (neg (ofℕ 14)) ∷ at 1 (ofℕ 16) ∷ []) ∷ [])

pub proved : List Case
unfolding four sixteen
proved =
    -- path of 5, size 2; path of 8, size 7; path of 9, size 8
    is (grouped 2 (path 0 5)) (0 ∷ 0 ∷ 0 ∷ 1 ∷ 1 ∷ 2 ∷ [])
    ∷ is (grouped 7 (path 0 8)) (0 ∷ replicate 7 0 ++ (1 ∷ []))
    ∷ is (grouped 8 (path 0 9)) (0 ∷ replicate 9 0)
    -- one node, no neighbour; two nodes, only node 1 lists 0
    ∷ is (grouped 8 ([] ∷ [])) (0 ∷ 0 ∷ [])
    ∷ is (grouped 8 ([] ∷ (0 ∷ []) ∷ [])) (0 ∷ 0 ∷ 0 ∷ [])
    -- paths 0-7 and 8-14; node 15 lists 3 and 11: with 8-14; or 3, 3, 11: with 0-7
    ∷ is (grouped 8 (path 0 8 ++ path 8 7 ++ ((3 ∷ 11 ∷ []) ∷ []))) (0 ∷ replicate 8 0 ++ replicate 8 1)
    ∷ is (grouped 8 (path 0 8 ++ path 8 7 ++ ((3 ∷ 3 ∷ 11 ∷ []) ∷ []))) (0 ∷ replicate 8 0 ++ replicate 7 1 ++ (0 ∷ []))
    -- two rounds: path 0-15; 16 lists nothing; 17 lists 16, 16, 3; size 16
    ∷ is (grouped 16 (path 0 16 ++ ([] ∷ (16 ∷ 16 ∷ 3 ∷ []) ∷ []))) (0 ∷ replicate 18 0)
    -- roots of 2 and of 2^-1074
    ∷ is (to_bits binary64 (rootᶠ (ofℕ 2)) ∷ []) (0x3FF6_A09E_667F_3BCD ∷ [])
    ∷ is (to_bits binary64 (rootᶠ (of_bits binary64 1)) ∷ []) (0x1E60_0000_0000_0000 ∷ [])
    -- [4 2; 2 5]: factor 2, 1, 2; (8,10) gives (1.25,1.5)
    ∷ is (blocks 2 four) (answer (floats (2 ∷ 0 ∷ 1 ∷ 2 ∷ [])))
    ∷ is (block_solved 2 four (floats (8 ∷ 10 ∷ []))) (answer (of_bits binary64 0x3FF4_0000_0000_0000 ∷ of_bits binary64 0x3FF8_0000_0000_0000 ∷ []))
    -- [16 -14; -14 16], Contiguous, size 2: (16,32) gives (13,14)
    ∷ is (shown (corrected sixteen (options Contiguous PiecewiseConstant 2) (floats (16 ∷ 32 ∷ [])))) (answer (floats (13 ∷ 14 ∷ [])))
    -- diag(16,4), Graph, size 1: (16,4) gives (2,2), (16,40) gives (2,20)
    ∷ is (shown (corrected (diag2 16 4) (options Graph PiecewiseConstant 1) (floats (16 ∷ 4 ∷ [])))) (answer (floats (2 ∷ 2 ∷ [])))
    ∷ is (shown (corrected (diag2 16 4) (options Graph PiecewiseConstant 1) (floats (16 ∷ 40 ∷ [])))) (answer (floats (2 ∷ 20 ∷ [])))
    ∷ []

-- THE THEOREM for all of them: each computes to what is expected, and diag(16,4) with only the diagonal stored and the residuals (16,4) and (16,40) meets every
-- premise of demand 3 for the first node
pub proved_hold :
    (map (λ c. c.computed) proved ≡ map (λ c. c.expected) proved)
    × Apart (diag2 16 4) (options Graph PiecewiseConstant 1) (λ v. eqb v 0) (floats (16 ∷ 4 ∷ [])) (floats (16 ∷ 40 ∷ []))
    × T (is_done (setup_of (diag2 16 4) (options Graph PiecewiseConstant 1) ample))
unfolding all_open proved
proved_hold = (refl, record { graph = tt; unlinked = tt; same = tt; finite_residuals = tt; formed_finite = tt; formed_finite' = tt; long = refl; long' = refl; are_f64 = tt }, tt)

-- 1e-14, 2e-14 and 1e-11
small : ℕ → Matrix
small b = matrix ((at 0 (of_bits binary64 b) ∷ []) ∷ [])

skew : Matrix
skew = matrix ((at 0 (ofℕ 1) ∷ at 1 (of_bits binary64 0x3DA5_FD7F_E179_6495) ∷ []) ∷ (at 0 (ofℕ 0) ∷ at 1 (ofℕ 1) ∷ []) ∷ [])

empty : Matrix
empty = matrix []

pub tried : List Case
unfolding small skew empty
tried =
    -- the largest finite number's root
    is (to_bits binary64 (rootᶠ (of_bits binary64 0x7FEF_FFFF_FFFF_FFFF)) ∷ []) (0x5FEF_FFFF_FFFF_FFFF ∷ [])
    -- 1e-14 is cause 15, 2e-14 passes, and so does [1 1e-11; 0 1]
    ∷ is (blocks 1 (small 0x3D06_849B_86A1_2B9B)) (15 ∷ 0 ∷ [])
    ∷ is (blocks 1 (small 0x3D16_849B_86A1_2B9B)) (answer (rootᶠ (of_bits binary64 0x3D16_849B_86A1_2B9B) ∷ []))
    ∷ is (blocks 2 skew) (answer (floats (1 ∷ 0 ∷ 0 ∷ 1 ∷ [])))
    -- Contiguous parts may mix: diag(16,9), size 2
    ∷ is (shown (corrected (diag2 16 9) (options Contiguous PiecewiseConstant 2) (floats (16 ∷ 9 ∷ [])))) (answer (floats (2 ∷ 2 ∷ [])))
    ∷ is (lib.ListN.take 2 (shown (corrected (diag2 16 9) (options Contiguous PiecewiseConstant 2) (floats (16 ∷ 34 ∷ []))))) (answer (floats (3 ∷ [])))
    -- zero rows: Contiguous 23, or smoothed 22 stage 1; Graph 16
    ∷ is (shown (corrected empty (options Contiguous PiecewiseConstant 1) [])) (23 ∷ [])
    ∷ is (shown (corrected empty (options Contiguous JacobiSmoothed 1) [])) (22 ∷ 1 ∷ [])
    ∷ is (shown (corrected empty (options Graph PiecewiseConstant 1) [])) (16 ∷ [])
    ∷ is (shown (corrected empty (options StrongGraph JacobiSmoothed 1) [])) (16 ∷ [])
    -- the program, and malformed texts
    ∷ is (program (bytes "5 2 1 1 2 0 2 2 1 3 2 2 4 1 3")) (bytes "groups 3\n0 0\n1 0\n2 1\n3 1\n4 2\n")
    ∷ is (program (bytes "")) (bytes "refused 27\n")
    ∷ is (program (bytes "257 x")) (bytes "refused 1\n")
    -- three rounds of joining: of the groups as grown, 2 to 0 and 4 to 3; 3 to 0; 0 to 1
    ∷ is (grouped 20 ((0 ∷ []) ∷ (2 ∷ []) ∷ [] ∷ (0 ∷ []) ∷ [] ∷ (4 ∷ 3 ∷ 1 ∷ []) ∷ [])) (0 ∷ replicate 6 0)
    ∷ []

pub tried_hold : map (λ c. c.computed) tried ≡ map (λ c. c.expected) tried
unfolding all_open tried bytes
tried_hold = refl

-- ---- the joining log

-- a grouping with a log of `room` numbers, each 7 before: the number of groups and of joinings, and the log afterwards; a refusal's number and the log
abbrev log_shown : Outcome Logged → List ℕ → List ℕ
log_shown (refused r) log = number_of r ∷ log
log_shown (done g) log = g.grouping.count ∷ g.joinings ∷ log

abbrev logged_in : ℕ → ℕ → List (List ℕ) → List ℕ
logged_in room size lists =
    let n = length lists in
    let neighbours = flat_map (λ l. l) lists in
    let call = grouping_log_call n size (tab (λ v. length (flat_map (λ l. l) (lib.ListN.take v lists))) (suc n)) neighbours n room (8 * n + 4 * length neighbours + 16) in
    log_shown call (log_left call (replicate room 7))

abbrev logged : ℕ → List (List ℕ) → List ℕ
logged size lists = logged_in (3 * length lists) size lists

pub logs : List Case
logs =
    -- each with its one joining: path of 9, size 8: only one group named
    is (logged 8 (path 0 9)) (1 ∷ 1 ∷ (1 ∷ 0 ∷ 1 ∷ []) ++ replicate 24 0)
    -- paths 0-7 and 8-14, 15 lists 3 and 11: fewer members; 3, 3, 11: most edges; paths 0-7 and 8-15, 16 lists 3 and 11: lower id
    ∷ is (logged 8 (path 0 8 ++ path 8 7 ++ ((3 ∷ 11 ∷ []) ∷ []))) (2 ∷ 1 ∷ (2 ∷ 1 ∷ 3 ∷ []) ++ replicate 45 0)
    ∷ is (logged 8 (path 0 8 ++ path 8 7 ++ ((3 ∷ 3 ∷ 11 ∷ []) ∷ []))) (2 ∷ 1 ∷ (2 ∷ 0 ∷ 2 ∷ []) ++ replicate 45 0)
    ∷ is (logged 8 (path 0 8 ++ path 8 8 ++ ((3 ∷ 11 ∷ []) ∷ []))) (2 ∷ 1 ∷ (2 ∷ 0 ∷ 4 ∷ []) ++ replicate 48 0)
    -- document 01's two rounds
    ∷ is (logged 16 (path 0 16 ++ ([] ∷ (16 ∷ 16 ∷ 3 ∷ []) ∷ []))) (1 ∷ 2 ∷ (2 ∷ 1 ∷ 2 ∷ 1 ∷ 0 ∷ 1 ∷ []) ++ replicate 48 0)
    -- three rounds
    ∷ is (logged 20 ((0 ∷ []) ∷ (2 ∷ []) ∷ [] ∷ (0 ∷ []) ∷ [] ∷ (4 ∷ 3 ∷ 1 ∷ []) ∷ [])) (1 ∷ 4 ∷ (2 ∷ 0 ∷ 1 ∷ 4 ∷ 3 ∷ 3 ∷ 3 ∷ 0 ∷ 4 ∷ 0 ∷ 1 ∷ 1 ∷ []) ++ replicate 6 0)
    -- a log one number short keeps all; one or two behind whole places are zero too; no joining; 13 before 29
    ∷ is (logged_in 5 8 ([] ∷ (0 ∷ []) ∷ [])) (29 ∷ replicate 5 7)
    ∷ is (logged_in 8 8 ([] ∷ (0 ∷ []) ∷ [])) (1 ∷ 1 ∷ (1 ∷ 0 ∷ 1 ∷ []) ++ replicate 5 0)
    ∷ is (logged 8 ([] ∷ [])) (1 ∷ 0 ∷ replicate 3 0)
    ∷ is (log_shown (grouping_log_call 1 1 (0 ∷ 0 ∷ []) [] 0 2 24) []) (13 ∷ [])
    ∷ is (log_shown (grouping_log_call 1 1 (0 ∷ 0 ∷ []) [] 1 2 24) []) (29 ∷ [])
    ∷ []

pub logs_hold : map (λ c. c.computed) logs ≡ map (λ c. c.expected) logs
unfolding all_open logs
logs_hold = refl

-- ---- the operator complexity

-- both counts of a setup
abbrev counts : Outcome Built → List ℕ
counts (refused r) = number_of r ∷ values_of r
counts (done b) = b.setup.complexity ∷ b.setup.baseline ∷ []

abbrev counted : Matrix → TwoLevelAggregation → ℕ → List ℕ
counted a g size = counts (setup_of a (options g PiecewiseConstant size) ample)

minus : ℕ → Float
minus n = neg (ofℕ n)

pub complexities : List Case
unfolding minus
complexities =
    is (counted (diag2 16 4) Graph 1) (4 ∷ 2 ∷ [])
    -- 4 1; 1 4 and 4 1; -1 4, whose pair cancels when it is averaged: 8 if counted before
    ∷ is (counted (matrix ((at 0 (ofℕ 4) ∷ at 1 (ofℕ 1) ∷ []) ∷ (at 0 (ofℕ 1) ∷ at 1 (ofℕ 4) ∷ []) ∷ [])) Graph 1) (8 ∷ 4 ∷ [])
    ∷ is (counted (matrix ((at 0 (ofℕ 4) ∷ at 1 (ofℕ 1) ∷ []) ∷ (at 0 (minus 1) ∷ at 1 (ofℕ 4) ∷ []) ∷ [])) Graph 1) (6 ∷ 4 ∷ [])
    -- the pair 3 and -1 does not cancel; two links between the same groups do, when they are added up
    ∷ is (counted (matrix ((at 0 (ofℕ 4) ∷ at 1 (ofℕ 3) ∷ []) ∷ (at 0 (minus 1) ∷ at 1 (ofℕ 4) ∷ []) ∷ [])) Graph 1) (8 ∷ 4 ∷ [])
    ∷ is (counted (matrix ((at 0 (ofℕ 4) ∷ at 2 (ofℕ 1) ∷ []) ∷ (at 1 (ofℕ 4) ∷ at 3 (minus 1) ∷ []) ∷ (at 0 (ofℕ 1) ∷ at 2 (ofℕ 4) ∷ []) ∷ (at 1 (minus 1) ∷ at 3 (ofℕ 4) ∷ []) ∷ [])) Contiguous 2) (10 ∷ 8 ∷ [])
    -- +0 and -0 are zero; a negative number, the smallest number and NaN are not
    ∷ is (nonzeros (ofℕ 0 ∷ minus 0 ∷ minus 1 ∷ of_bits binary64 1 ∷ nan ∷ []) ∷ []) (3 ∷ [])
    ∷ []

pub complexities_hold : map (λ c. c.computed) complexities ≡ map (λ c. c.expected) complexities
unfolding all_open complexities minus
complexities_hold = refl

-- ---- orders and lengths

abbrev setup_shown : Outcome Built → List ℕ
setup_shown (refused r) = number_of r ∷ values_of r
setup_shown (done b) = 0 ∷ []

-- diag(16,4), Graph, size 1, with lists of these lengths
abbrev with_room : ℕ → ℕ → ℕ → ℕ → List ℕ
with_room i f wi wf = setup_shown (setup_of (diag2 16 4) (options Graph PiecewiseConstant 1) (record { ints = i; floats = f; work_ints = wi; work_floats = wf }))

-- its record, with some of its numbers as given
abbrev like : TwoLevelBasis → TwoLevelCoarseApplyPolicy → ℕ → ℕ → ℕ → ℕ → Setup
like basis policy size nodes groups transfers =
    record { rows = 2; entries = 2; block = 1; group = size; nodes = nodes; groups = groups; coarse = 2; transfers = transfers; aggregation = Graph; basis = basis; policy = policy; damping = ofℕ 0; scale = ofℕ 16; complexity = 0; baseline = 7 }

abbrev constant : Setup
constant = like PiecewiseConstant FactorSolve 1 2 2 0

abbrev smoothed : ℕ → Setup
smoothed t = like JacobiSmoothed FactorSolve 1 2 2 t

abbrev applied_shown : Setup → List ℕ → List ℕ → ℕ → ℕ → ℕ → List ℕ
applied_shown s ints fs r z work = lib.ListN.take 3 (shown (apply_call s ints (floats fs) (replicate r (ofℕ 16)) z work))

accepts : List ℕ
accepts = shown (done (ofℕ 2 ∷ ofℕ 8 ∷ []))

ids : List ℕ
ids = 0 ∷ 1 ∷ []

stored : List ℕ
stored = 4 ∷ 2 ∷ 4 ∷ 0 ∷ 2 ∷ []

weighted : List ℕ
weighted = 4 ∷ 2 ∷ 1 ∷ 1 ∷ 4 ∷ 0 ∷ 2 ∷ []

pub orders : List Case
unfolding accepts ids stored weighted
orders =
    -- 13 asks 9, 6, 40 and 20; 18 adds 4, 8 and 12, and not to the setup integers
    is (with_room 9 10 48 32) (0 ∷ [])
    ∷ is (with_room 8 10 48 32) (13 ∷ []) ∷ is (with_room 9 5 48 32) (13 ∷ []) ∷ is (with_room 9 10 39 32) (13 ∷ []) ∷ is (with_room 9 10 48 19) (13 ∷ [])
    ∷ is (with_room 9 9 48 32) (18 ∷ 2 ∷ []) ∷ is (with_room 9 10 47 32) (18 ∷ 2 ∷ []) ∷ is (with_room 9 10 48 31) (18 ∷ 2 ∷ [])
    -- apply: the residual, the correction, 26, 13
    ∷ is (applied_shown constant ids stored 2 2 4) accepts
    ∷ is (applied_shown (like PiecewiseConstant Auto 1 2 2 0) ids stored 3 1 0) (25 ∷ 2 ∷ 3 ∷ [])
    ∷ is (applied_shown (like PiecewiseConstant Auto 1 2 2 0) ids stored 2 1 0) (25 ∷ 2 ∷ 1 ∷ [])
    ∷ is (applied_shown (like PiecewiseConstant Auto 1 2 2 0) ids stored 2 2 0) (26 ∷ [])
    ∷ is (applied_shown constant ids stored 2 2 3) (13 ∷ [])
    -- group size 0 is no cause, above the limit it is; nodes, groups, a transfer count without smoothing, an id, a short list
    ∷ is (applied_shown (like PiecewiseConstant FactorSolve 0 2 2 0) ids stored 2 2 4) accepts
    ∷ is (applied_shown (like PiecewiseConstant FactorSolve 1_048_577 2 2 0) ids stored 2 2 4) (26 ∷ [])
    ∷ is (applied_shown (like PiecewiseConstant FactorSolve 1 1 2 0) ids stored 2 2 4) (26 ∷ [])
    ∷ is (applied_shown (like PiecewiseConstant FactorSolve 1 2 1 0) ids stored 2 2 4) (26 ∷ [])
    ∷ is (applied_shown (like PiecewiseConstant FactorSolve 1 2 2 1) ids stored 2 2 4) (26 ∷ [])
    ∷ is (applied_shown constant (0 ∷ 2 ∷ []) stored 2 2 4) (26 ∷ [])
    ∷ is (applied_shown constant (0 ∷ []) stored 2 2 4) (26 ∷ [])
    ∷ is (applied_shown constant ids (4 ∷ 2 ∷ 4 ∷ 0 ∷ []) 2 2 4) (26 ∷ [])
    -- smoothed: pointers that start at 1, fall or miss the count, a column outside, a count above rows + entries
    ∷ is (applied_shown (smoothed 2) (0 ∷ 1 ∷ 0 ∷ 1 ∷ 2 ∷ 0 ∷ 1 ∷ []) weighted 2 2 4) accepts
    ∷ is (applied_shown (smoothed 2) (0 ∷ 1 ∷ 1 ∷ 1 ∷ 2 ∷ 0 ∷ 1 ∷ []) weighted 2 2 4) (26 ∷ [])
    ∷ is (applied_shown (smoothed 2) (0 ∷ 1 ∷ 0 ∷ 3 ∷ 2 ∷ 0 ∷ 1 ∷ []) weighted 2 2 4) (26 ∷ [])
    ∷ is (applied_shown (smoothed 2) (0 ∷ 1 ∷ 0 ∷ 1 ∷ 1 ∷ 0 ∷ 1 ∷ []) weighted 2 2 4) (26 ∷ [])
    ∷ is (applied_shown (smoothed 2) (0 ∷ 1 ∷ 0 ∷ 1 ∷ 2 ∷ 0 ∷ 2 ∷ []) weighted 2 2 4) (26 ∷ [])
    ∷ is (applied_shown (smoothed 5) (0 ∷ 1 ∷ 0 ∷ 2 ∷ 5 ∷ replicate 5 0) (4 ∷ 2 ∷ replicate 8 1) 2 2 4) (26 ∷ [])
    -- grouping alone: 11 before 27, 27 before 28, 28 before 13
    ∷ is (ids_shown (grouping_call 1 0 [] [] 0 0)) (11 ∷ [])
    ∷ is (ids_shown (grouping_call 1 1 (0 ∷ 1 ∷ 1 ∷ []) (1 ∷ []) 0 0)) (27 ∷ [])
    ∷ is (ids_shown (grouping_call 1 1 (0 ∷ 1 ∷ []) (1 ∷ []) 0 0)) (28 ∷ [])
    ∷ is (ids_shown (grouping_call 1 1 (0 ∷ 1 ∷ []) (0 ∷ []) 1 27)) (13 ∷ [])
    ∷ is (ids_shown (grouping_call 0 1 (0 ∷ []) [] 0 0)) (16 ∷ [])
    ∷ []

pub orders_hold : map (λ c. c.computed) orders ≡ map (λ c. c.expected) orders
unfolding all_open orders
orders_hold = refl
