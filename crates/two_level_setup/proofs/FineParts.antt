-- The fine level: no check of its two calls fails, and what they leave is what the lists hold then.
use Rattle.std.specs.Prelude.{Err, Ok, Result}
use mathlib.Core.Path.{◌≡◌, refl, ap, sym, ◌∙◌, subst}
use mathlib.Core.List.{List, [], ◌++◌, flat_map, append-nil}
use Prim.Native.Nat.{ℕ, ◌+◌, ◌*◌, ◌%◌, ◌≤◌, ◌<◌}
use native.Mathlib.Omega.{arith}
use native.Mathlib.Nat.{div-le_self, mul-le-mul}
use lib.ListN.{length, replicate}
use lib.Ieee.{Float}
use borrow.Author.Tests.{le-leb, eq-eqb}
use Rattle.definitions.specs.Lists.{padded, pointers_from}
use Rattle.definitions.specs.Numbers.{zeroᶠ}
use Rattle.definitions.specs.Refusal.{Outcome, refused, done, ◌>>=◌, result_left, work_left}
use Rattle.definitions.specs.Matrix.{Matrix, valid_of}
use Rattle.definitions.specs.Block.{max_block, factors_of, blocks_call, blocks_left}
use Rattle.definitions.specs.Groups.{Grouping, max_group}
use Rattle.definitions.specs.Places.{node_count, Lengths}
use Rattle.definitions.specs.Setup.{Lent, front_of, grouping_of, transfer_ints, transfer_floats, lent_of}
use Rattle.definitions.specs.Answers.{answer_of, grouping_answer}
use Rattle.definitions.specs.declared.Options.{Options}
use Rattle.definitions.specs.declared.Setup.{Setup}
use Rattle.definitions.specs.declared.TwoLevelBasis.{TwoLevelBasis}
use Rattle.definitions.specs.declared.TwoLevelBasis.TheVariants.{PiecewiseConstant, JacobiSmoothed}
use Rattle.definitions.specs.declared.Refusal.{Refusal}
use Rattle.definitions.specs.declared.Refusal.TheVariants.{NotSquare, BlockSize, GroupSize, NotMultiple, ListTooShort}
use Rattle.laws.proofs.Outcomes.{done_inj, bind_done}
use Rattle.laws.proofs.GroupIds.{ids_length, ids_below, count_few}
use Rattle.laws.proofs.SetupLists.{factors_length}
use Rattle.csr32.specs.Calls.{goes_on, stops, passed, refused_is}
use Rattle.two_level_grouping.specs.Front.{Front, front_rows, rows_whole}
use Rattle.two_level_grouping.specs.Calls.{has_room, asked, aggregate_call, ids_left, Answered}
use Rattle.two_level_grouping.proofs.Asking.{front_asked}
use Rattle.two_level_setup.specs.Stages.{Parts, options_of, started, parts_answer, grouped, fine_of}
use Rattle.two_level_setup.specs.Fit.{Fit, Bounds, Counted}
use Rattle.two_level_setup.specs.Promises.{room_in, Holds, Leaves, Begun}
use Rattle.two_level_setup.proofs.Lending.{padded_zero}
use Rattle.two_level_setup.proofs.Composition.{built_is, leaves_refused, leaves_done}

-- ---- what numbers are at most

pub sized_bounds : (rows entries block : ℕ) → rows ≤ 1_048_576 → entries ≤ 16_777_216 → 1 ≤ block → block ≤ max_block → Bounds rows entries block
sized_bounds rows entries block h k l m = record { rows_most = h; entries_most = k; used = mul-le-mul h m; nodes = div-le_self rows block; some = l }

pub bounds : (a : Matrix) (o : Options) → Front a o → Bounds a.rows (length a.values) o.block
bounds a o f = let q = front_rows a o f in sized_bounds a.rows (length a.values) o.block q.few_rows q.few_entries f.least f.most

pub groups_most : (a : Matrix) (o : Options) (groups : ℕ) → Front a o → groups ≤ node_count a o → groups * o.block ≤ 8_388_608
groups_most a o groups f h = let b = bounds a o f in let m : groups ≤ 1_048_576 = omega (arith, b.nodes, b.rows_most, h) in mul-le-mul m f.most

-- ---- before the transfer

-- no rows of the transfer stand yet: where zeros follow, nothing does
pub no_rows : (basis : TwoLevelBasis) (n : ℕ) (ids : List ℕ) → length ids < n → padded 0 n (ids ++ transfer_ints basis []) ≡ padded 0 n ids
unfolding transfer_ints flat_map pointers_from
no_rows PiecewiseConstant n ids h = ap (λ l. padded 0 n l) (append-nil ids)
no_rows JacobiSmoothed n ids h = padded_zero 0 n ids h

pub no_weights : (factors d : List Float) → factors ++ transfer_floats [] ++ d ≡ factors ++ d
unfolding transfer_floats flat_map
no_weights factors d = ap (λ l. l ++ d) (append-nil factors)

module _ (a : Matrix) (o : Options) (f : Front a o) where
  module _ (factors : List Float) (g : Grouping) (ef : factors_of a o.block ≡ done factors) (eg : grouping_of o.aggregation a o ≡ done g) where
    grouped_begun : Begun a (grouped a o factors g)
    unfolding grouped started transfer_floats flat_map
    grouped_begun = record {
      sound = record {
        factors = factors_length a o.block factors f.least (rows_whole a o f) ef;
        ids = ids_length a o g o.aggregation eg;
        below = ids_below a o g o.aggregation f.some eg;
        transfers = refl;
        coarse = refl;
      };
      weights = refl;
      damping = refl;
    }

    grouped_counted : Counted a (grouped a o factors g).setup
    unfolding grouped started
    grouped_counted = record { rows = refl; nodes = refl; coarse = refl; few = count_few a o g o.aggregation f.some eg; transfers = omega arith }

  found : (p : Parts) → fine_of a o ≡ done p → (factors : List Float) × (g : Grouping) × (factors_of a o.block ≡ done factors) × (grouping_of o.aggregation a o ≡ done g) × (grouped a o factors g ≡ p)
  unfolding fine_of
  found p e =
      let b = bind_done (factors_of a o.block) (λ factors. grouping_of o.aggregation a o >>= (λ g. done (grouped a o factors g))) p e in
      let k = bind_done (grouping_of o.aggregation a o) (λ g. done (grouped a o b.0 g)) p b.2 in
      (b.0, k.0, b.1, k.1, done_inj k.2)

  pub fine_begun : (p : Parts) → fine_of a o ≡ done p → Begun a p
  fine_begun p e = let b = found p e in subst (λ q. Begun a q) b.4 (grouped_begun b.0 b.1 b.2 b.3)

  module _ (room : Lengths) (fit : Fit a o room) (s : Setup) (e : Ok s ≡ parts_answer (fine_of a o)) where
    pub fine_fits : Fit a (options_of s) room × Counted a s
    unfolding grouped started
    fine_fits =
        let q = built_is (fine_of a o) s e in
        let b = found q.0 q.1 in
        let es : (grouped a o b.0 b.1).setup ≡ s = ap (λ (p : Parts). p.setup) b.4 ∙ q.2 in
        subst (λ (z : Setup). Fit a (options_of z) room × Counted a z) es (
          record {
            front = record { valid = f.valid; square = f.square; least = f.least; most = f.most; some = f.some; fewest = f.fewest; whole = f.whole };
            ints = fit.ints;
            floats = fit.floats;
            work_ints = fit.work_ints;
            work_floats = fit.work_floats;
          },
          grouped_counted b.0 b.1 b.2 b.3,
        )

-- ---- the two calls

module _ (a : Matrix) (o : Options) (memory : Lent) (f : Fit a o (room_in memory)) where
  blocks_pass : blocks_call a o.block (length memory.floats) ≡ factors_of a o.block
  unfolding blocks_call
  blocks_pass =
      goes_on (valid_of a) tt _ f.front.valid
      ∙ goes_on _ tt _ (passed _ NotSquare (eq-eqb a.cols a.rows f.front.square))
      ∙ goes_on _ tt _ (passed _ BlockSize (rw (le-leb 1 o.block f.front.least, le-leb o.block max_block f.front.most)))
      ∙ goes_on _ tt _ (passed _ ListTooShort (le-leb (a.rows * o.block) (length memory.floats) (omega (arith, f.floats))))

  -- what 1 to 12 leave tells that they pass
  front_passes : front_of a o ≡ done tt
  unfolding front_of
  front_passes =
      goes_on (valid_of a) tt _ f.front.valid
      ∙ goes_on _ tt _ (passed _ NotSquare (eq-eqb a.cols a.rows f.front.square))
      ∙ goes_on _ tt _ (passed _ BlockSize (rw (le-leb 1 o.block f.front.least, le-leb o.block max_block f.front.most)))
      ∙ goes_on _ tt _ (passed _ GroupSize (rw (le-leb 1 o.group f.front.some, le-leb o.group max_group f.front.fewest)))
      ∙ passed _ NotMultiple (eq-eqb (a.rows % o.block) 0 f.front.whole)

  aggregate_passes : aggregate_call a o (length memory.ints) (length memory.work_ints) (length memory.work_floats) ≡ grouping_of o.aggregation a o
  unfolding aggregate_call has_room
  aggregate_passes =
      goes_on (asked a o) tt _ (front_asked a o front_passes)
      ∙ goes_on _ tt _ (passed _ ListTooShort (rw (
        le-leb (node_count a o) (length memory.ints) (omega (arith, f.ints)),
        le-leb (8 * node_count a o + 4 * length a.values + 16) (length memory.work_ints) (omega (arith, f.work_ints, div-le_self a.rows o.block)),
        le-leb (3 * node_count a o) (length memory.work_floats) (omega (arith, f.work_floats, div-le_self a.rows o.block)),
      )))

  module _ (x : (Result (Unit {0}) Refusal)) (ex : x ≡ answer_of (blocks_call a o.block (length memory.floats))) where
    pub blocks_refused : (r : Refusal) (y : Lent) → x ≡ Err r → Leaves (fine_of a o) (Err r) y
    unfolding fine_of
    blocks_refused r y e = leaves_refused (fine_of a o) r y (stops (factors_of a o.block) r _ (refused_is (factors_of a o.block) r (ap answer_of (sym blocks_pass) ∙ sym ex ∙ e)))

    has_factors : (p : Outcome (List Float)) → (Ok tt) ≡ answer_of p → (l : List Float) × (p ≡ done l)
    unfolding answer_of
    has_factors (done l) e = (l, refl)
    has_factors (refused r) e = ([], cc)

    module _ (accepted : x ≡ (Ok tt)) (z : (Result ℕ Refusal)) (ints1 workInts1 : List ℕ) (workFloats1 : List Float)
        (s : Answered (aggregate_call a o (length memory.ints) (length memory.work_ints) (length memory.work_floats)) memory.ints memory.work_ints memory.work_floats z ints1 workInts1 workFloats1) where
      abbrev factors : (l : List Float) × (factors_of a o.block ≡ done l)
      factors = has_factors (factors_of a o.block) (sym accepted ∙ ex ∙ ap answer_of blocks_pass)

      answered : z ≡ grouping_answer (grouping_of o.aggregation a o)
      answered = s.answer ∙ ap grouping_answer aggregate_passes

      no_groups : (p : Outcome Grouping) (r : Refusal) → Err r ≡ grouping_answer p → p ≡ refused r
      unfolding grouping_answer
      no_groups (done g) r e = cc
      no_groups (refused q) r e = cc

      has_groups : (p : Outcome Grouping) (n : ℕ) → Ok n ≡ grouping_answer p → (g : Grouping) × (p ≡ done g) × (n ≡ g.count)
      unfolding grouping_answer
      has_groups (done g) n e = (g, refl, cc)
      has_groups (refused q) n e = (record { ids = []; count = 0 }, cc, cc)

      pub groups_refused : (r : Refusal) (y : Lent) → z ≡ Err r → Leaves (fine_of a o) (Err r) y
      unfolding fine_of
      groups_refused r y e =
          leaves_refused (fine_of a o) r y (goes_on (factors_of a o.block) factors.0 _ factors.1 ∙ stops (grouping_of o.aggregation a o) r _ (no_groups (grouping_of o.aggregation a o) r (sym e ∙ answered)))

      module _ (groups : ℕ) (e : z ≡ Ok groups) where
        abbrev grouping : (g : Grouping) × (grouping_of o.aggregation a o ≡ done g) × (groups ≡ g.count)
        grouping = has_groups (grouping_of o.aggregation a o) groups (sym e ∙ answered)

        pub groups_few : groups ≤ node_count a o
        groups_few = rw grouping.2 (count_few a o grouping.0 o.aggregation f.front.some grouping.1)

        pub fine_built : (t : Setup) → t ≡ started a.rows (length a.values) o groups → (floats1 : List Float) → floats1 ≡ blocks_left a o.block memory.floats
            → length ints1 ≡ length memory.ints → length floats1 ≡ length memory.floats → length workInts1 ≡ length memory.work_ints → length workFloats1 ≡ length memory.work_floats
            → Leaves (fine_of a o) (Ok t) (lent_of ints1 floats1 workInts1 workFloats1)
        unfolding fine_of grouped started blocks_left result_left work_left ids_left ◌>>=◌
        fine_built t et floats1 ef li lf lwi lwf =
            let l = factors.0 in
            let g = grouping.0 in
            let p : aggregate_call a o (length memory.ints) (length memory.work_ints) (length memory.work_floats) ≡ done g = aggregate_passes ∙ grouping.1 in
            let short : length g.ids < length ints1 = omega (arith, ids_length a o g o.aggregation grouping.1, f.ints, li) in
            let k : fine_of a o ≡ done (grouped a o l g) = goes_on (factors_of a o.block) l _ factors.1 ∙ goes_on (grouping_of o.aggregation a o) g _ grouping.1 in
            let st : floats1 ≡ padded zeroᶠ (length floats1) l = ef ∙ ap (λ q. result_left zeroᶠ q memory.floats) (blocks_pass ∙ factors.1) ∙ ap (λ n. padded zeroᶠ n l) (sym lf) in
            let si : ints1 ≡ padded 0 (length ints1) g.ids = s.groups ∙ ap (λ q. ids_left q memory.ints) p ∙ ap (λ n. padded 0 n g.ids) (sym li) in
            let h : Holds (grouped a o l g) (lent_of ints1 floats1 workInts1 workFloats1) = record {
              ints = si ∙ sym (no_rows o.basis (length ints1) g.ids short);
              floats = st ∙ ap (λ q. padded zeroᶠ (length floats1) q) (sym (no_weights l [] ∙ append-nil l));
              work_ints = s.ints ∙ ap (λ q. work_left 0 q memory.work_ints) p ∙ ap (λ n. replicate n 0) (sym lwi);
              work_floats = s.floats ∙ ap (λ q. work_left zeroᶠ q memory.work_floats) p ∙ ap (λ n. replicate n zeroᶠ) (sym lwf);
            } in
            subst (λ q. Leaves (fine_of a o) (Ok q) (lent_of ints1 floats1 workInts1 workFloats1)) (sym (et ∙ ap (λ n. started a.rows (length a.values) o n) grouping.2))
            (leaves_done (fine_of a o) (grouped a o l g) (lent_of ints1 floats1 workInts1 workFloats1) k h)
