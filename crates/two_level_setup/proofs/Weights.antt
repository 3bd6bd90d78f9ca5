-- The weights of the smoothed transfer: no check of their call fails, they are at most rows + entries many, and they move to their places.
use Rattle.std.specs.Prelude.{Err, Ok, Result}
use mathlib.Core.Path.{◌≡◌, refl, ap, sym, ◌∙◌, subst}
use mathlib.Core.List.{List, [], ◌∷◌, ◌++◌, map, flat_map, append-nil, append_assoc}
use Prim.Native.Nat.{ℕ, suc, ◌+◌, ◌-◌, ◌*◌, ◌/◌, ◌%◌, ◌≤◌, ◌<◌}
use native.Mathlib.Omega.{arith}
use native.Mathlib.Nat.{le_trans}
use lib.ListN.{length, get_or, take, drop, replicate, length-append, length-drop, replicate-append-replicate}
use lib.Seq.{length-take-le, take_all, take-take, drop-drop}
use lib.Ieee.{Float, ne}
use borrow.Author.Tests.{le-leb, eq-eqb}
use borrow.Rule.Slice.PartMut.{put_mid, take_put}
use Rattle.definitions.specs.Lists.{tab, padded, between, pointers_from, joined_lists}
use Rattle.definitions.specs.Numbers.{zeroᶠ}
use Rattle.definitions.specs.Refusal.{Outcome, done, ◌>>=◌, result_left}
use Rattle.definitions.specs.Matrix.{Matrix, Entry, structure_of, max_rows}
use Rattle.definitions.specs.Transfer.{coarse_column, weight_at, transfer_row, transfer_of}
use Rattle.definitions.specs.Setup.{Lent, max_coarse, transfer_ints, transfer_floats, lent_of}
use Rattle.definitions.specs.Answers.{transfer_answer}
use Rattle.definitions.specs.declared.Setup.{Setup}
use Rattle.definitions.specs.declared.TwoLevelBasis.TheVariants.{JacobiSmoothed}
use Rattle.definitions.specs.declared.Refusal.{Refusal}
use Rattle.definitions.specs.declared.Refusal.TheVariants.{TooLarge, NotSquare, BlockSize, NotMultiple, ListTooShort, CoarseTooLarge, CoarseListTooShort, WrongLength, SetupMisfit}
use Rattle.laws.proofs.Scans.{below_none}
use Rattle.laws.proofs.Lists.{Each, each_tab, each_keep, length_tab, part_mid}
use Rattle.laws.proofs.Csr.{columns_of, numbers_of, pointers_length, columns_length, values_length}
use Rattle.laws.proofs.Counting.{rows_within}
use Rattle.laws.proofs.TransferRows.{row_short, entries_short}
use Rattle.csr32.specs.Calls.{goes_on, passed}
use Rattle.csr32.specs.Rows.{valid_structure}
use Rattle.numbers.specs.Copied.{copied}
use Rattle.two_level_grouping.proofs.Kept.{drop_replicate, put_tail}
use Rattle.two_level_grouping.specs.Front.{front_rows}
use Rattle.transfer.specs.Call.{shape_checked, groups_checked, transfer_checked, smoothed_transfer_call, transfer_ints as ints_left, transfer_floats as floats_left}
use Rattle.two_level_setup.specs.Stages.{Parts, options_of, filled, transferred}
use Rattle.two_level_setup.specs.Fit.{Ample}
use Rattle.two_level_setup.specs.Promises.{room_in, Holds, Begun, Weighted, Listed, ColumnsPlaced, MovedInts, MovedFloats, beside, WeightsStage}
use Rattle.two_level_setup.proofs.Padding.{padded_none, padded_front, padded_all, padded_back, padded_join, padded_past, copied_longer, tail_is}
use Rattle.two_level_setup.proofs.Lending.{padded_full, put_padded, tail_cleared}
use Rattle.two_level_setup.proofs.Columns.{whole_nodes, ids_small, listed_made, listed_below, transfer_listed}
use Rattle.two_level_setup.proofs.FineParts.{no_rows, no_weights}

map_over : {B : Type 0} (h : Entry → B) (xs ys : List Entry) → map h (xs ++ ys) ≡ map h xs ++ map h ys
map_over h [] ys = refl
map_over h (z ∷ xs) ys = ap (λ s. h z ∷ s) (map_over h xs ys)

map_joined : {B : Type 0} (f : Entry → B) (rows : List (List Entry)) → map f (joined_lists rows) ≡ flat_map (λ row. map f row) rows
unfolding flat_map
map_joined f [] = refl
map_joined f (row ∷ rows) = map_over f row (joined_lists rows) ∙ ap (λ s. map f row ++ s) (map_joined f rows)

-- one row of weights for each row, with columns below the coarse dimension
pub weighted : (a : Matrix) (d : List Float) (damping : Float) (size : ℕ) (ids : List ℕ) (c : ℕ) → Weighted a.rows c (transfer_of a d damping size ids c)
unfolding transfer_of transfer_row
weighted a d damping size ids c = record {
  many = length_tab (transfer_row a d damping size ids c) a.rows;
  below = each_tab (transfer_row a d damping size ids c) a.rows (λ i h. each_keep (λ e. ne e.value zeroᶠ) (each_tab (λ j. record { col = j; value = weight_at a d damping size ids i j }) c (λ j m u. m)));
}

-- with the coarse columns placed behind the ids
module _ (a : Matrix) (s : Setup) (damping : Float) (memory : Lent) (w : Ample a s (room_in memory))
    (placed cleared : List ℕ) (lp : length placed ≡ length memory.ints) (lc : length cleared ≡ length memory.work_ints) (pc : ColumnsPlaced s.block s.nodes a.rows memory.ints memory.work_ints placed cleared) where
  abbrev used : ℕ
  used = a.rows * s.block

  abbrev rows_of : List Float → List ℕ → List (List Entry)
  rows_of d ids = transfer_of a d damping s.block ids s.coarse

  -- what the call is lent of the work lists
  abbrev few_ints : ℕ
  few_ints = a.rows + (a.rows + length a.values) + 1 + 2 * s.coarse

  abbrev few_floats : ℕ
  few_floats = a.rows + length a.values + s.coarse

  abbrev lent_ints : List ℕ
  lent_ints = take few_ints cleared

  abbrev lent_floats : List Float
  lent_floats = take few_floats memory.work_floats

  ints_long : length lent_ints ≡ few_ints
  ints_long = length-take-le few_ints cleared (omega (arith, lc, w.work_ints))

  floats_long : length lent_floats ≡ few_floats
  floats_long = length-take-le few_floats memory.work_floats (omega (arith, w.work_floats))

  abbrev listed : List ℕ → List ℕ
  listed ids = tab (coarse_column s.block ids) a.rows

  abbrev call_for : List ℕ → List Float → Outcome (List (List Entry))
  call_for columns d = smoothed_transfer_call a 1 columns s.coarse d damping (length lent_ints) (length lent_floats)

  rows_are : a.rows ≡ s.nodes * s.block
  rows_are = whole_nodes a.rows s.block s.nodes w.front.whole w.counted.nodes

  call_passes : (ids : List ℕ) (d : List Float) → length ids ≡ s.nodes → Each (λ g. g < s.groups) ids → length d ≡ a.rows → call_for (listed ids) d ≡ done (rows_of d ids)
  unfolding smoothed_transfer_call transfer_checked shape_checked groups_checked
  call_passes ids d li b ld =
      let f = w.front in
      let c : s.coarse * 1 ≡ s.coarse = omega arith in
      let z : a.rows % 1 ≡ 0 = omega arith in
      let n : length (listed ids) ≡ a.rows / 1 = length_tab (coarse_column s.block ids) a.rows ∙ omega arith in
      let below : Each (λ j. j < s.coarse) (listed ids) = rw w.counted.coarse (listed_below s.block ids a.rows s.groups f.least (rw li rows_are) b) in
      goes_on _ tt _ (goes_on _ tt _ (passed _ TooLarge (le-leb s.coarse max_rows (omega (arith, w.small))))
      ∙ goes_on (structure_of a) tt _ (valid_structure a f.valid)
      ∙ goes_on _ tt _ (goes_on _ tt _ (passed _ NotSquare (eq-eqb a.cols a.rows f.square))
      ∙ goes_on _ tt _ (passed _ BlockSize refl)
      ∙ goes_on _ tt _ (passed _ NotMultiple (eq-eqb (a.rows % 1) 0 z))
      ∙ passed _ ListTooShort (rw (ints_long, floats_long, le-leb (2 * a.rows + length a.values + 1) few_ints (omega arith), le-leb (a.rows + length a.values) few_floats (omega arith))))
      ∙ goes_on _ tt _ (passed _ (CoarseTooLarge (s.coarse * 1)) (le-leb (s.coarse * 1) 2048 (rw c w.small)))
      ∙ goes_on _ tt _ (passed _ (CoarseListTooShort (s.coarse * 1)) (rw (ints_long, floats_long, c, le-leb (2 * a.rows + length a.values + 1 + 2 * s.coarse) few_ints (omega arith), le-leb (a.rows + length a.values + s.coarse) few_floats (omega arith))))
      ∙ goes_on _ tt _ (passed _ (WrongLength a.rows (length d)) (eq-eqb (length d) a.rows ld))
      ∙ passed _ SetupMisfit (rw (eq-eqb (length (listed ids)) (a.rows / 1) n, below_none s.coarse below)))
      ∙ ap (λ k. done (transfer_of a d damping 1 (listed ids) k)) c ∙ ap done (transfer_listed s.block ids a.rows a f.valid f.square refl d damping s.coarse)

  few_rows_lem : (d : List Float) (ids : List ℕ) → length (joined_lists (rows_of d ids)) ≤ a.rows + length a.values
  unfolding transfer_of
  few_rows_lem d ids =
      let q = front_rows a (options_of s) w.front in
      let k = rows_within (transfer_row a d damping s.block ids s.coarse) (λ i. get_or a.row_ptr i 0) a.rows q.rises (λ i h. le_trans (row_short a s.block ids d damping s.coarse i) (step (entries_short a i))) in
      omega (arith, k.0, q.last)
    where
      step : {x y : ℕ} → x ≤ y → suc x ≤ suc y
      step l = omega arith

  -- ---- what stands in the lists before it

  module _ (p : Parts) (d : List Float) (es : p.setup ≡ s) (bg : Begun a p) (ld : length d ≡ a.rows) (h : Holds (beside p d) memory) where
    nodes_are : length p.ids ≡ s.nodes
    nodes_are = bg.sound.ids ∙ ap (λ (t : Setup). t.nodes) es

    factors_are : length p.factors ≡ used
    factors_are = bg.sound.factors ∙ ap (λ (t : Setup). a.rows * t.block) es

    ints_are : memory.ints ≡ padded 0 (length memory.ints) p.ids
    ints_are = h.ints ∙ ap (λ l. padded 0 (length memory.ints) (p.ids ++ transfer_ints p.setup.basis l)) bg.weights ∙ no_rows p.setup.basis (length memory.ints) p.ids (omega (arith, nodes_are, w.ints))

    floats_are : memory.floats ≡ padded zeroᶠ (length memory.floats) (p.factors ++ d)
    floats_are = h.floats ∙ ap (λ l. padded zeroᶠ (length memory.floats) (p.factors ++ transfer_floats l ++ d)) bg.weights ∙ ap (λ l. padded zeroᶠ (length memory.floats) l) (no_weights p.factors d)

    ids_below : Each (λ x. x < s.groups) p.ids
    ids_below = subst (λ (t : Setup). Each (λ x. x < t.groups) p.ids) es bg.sound.below

    columns_placed : (placed ≡ padded 0 (length memory.ints) (p.ids ++ listed p.ids)) × (cleared ≡ replicate (length memory.work_ints) 0)
    columns_placed = pc p.ids ints_are nodes_are (ids_small s.groups s.block w.front.least (subst (λ m. m ≤ 2048) w.counted.coarse w.small) ids_below) h.work_ints

    cleared_is : cleared ≡ replicate (length cleared) 0
    cleared_is = columns_placed.1 ∙ ap (λ m. replicate m 0) (sym lc)

    placed_is : placed ≡ padded 0 (length placed) (p.ids ++ listed p.ids)
    placed_is = columns_placed.0 ∙ ap (λ m. padded 0 m (p.ids ++ listed p.ids)) (sym lp)

    placed_front : take s.nodes placed ≡ p.ids
    placed_front = ap (λ q. take s.nodes q) placed_is ∙ padded_front 0 (length placed) s.nodes p.ids (listed p.ids) nodes_are

    placed_behind : drop s.nodes placed ≡ padded 0 (length placed - s.nodes) (listed p.ids)
    placed_behind = ap (λ q. drop s.nodes q) placed_is ∙ padded_back 0 (length placed) s.nodes p.ids (listed p.ids) nodes_are

    columns_read : between s.nodes (s.nodes + a.rows) placed ≡ listed p.ids
    columns_read =
        let m : s.nodes + a.rows - s.nodes ≡ a.rows = omega arith in
        rw (m, placed_behind) (padded_all 0 (length placed - s.nodes) a.rows (listed p.ids) (length_tab (coarse_column s.block p.ids) a.rows))

    diagonal_read : between used (used + a.rows) memory.floats ≡ d
    unfolding padded
    diagonal_read =
        ap (λ l. between used (used + a.rows) l) (floats_are ∙ append_assoc p.factors d (replicate (length memory.floats - length (p.factors ++ d)) zeroᶠ))
        ∙ part_mid p.factors d (replicate (length memory.floats - length (p.factors ++ d)) zeroᶠ) used (used + a.rows) factors_are (ap (λ n. used + n) ld)

    call_is : call_for (between s.nodes (s.nodes + a.rows) placed) (between used (used + a.rows) memory.floats) ≡ done (rows_of d p.ids)
    call_is = rw (columns_read, diagonal_read) (call_passes p.ids d nodes_are ids_below ld)

  -- ---- the call

  abbrev call : Outcome (List (List Entry))
  call = call_for (between s.nodes (s.nodes + a.rows) placed) (between used (used + a.rows) memory.floats)

  module _ (x : (Result ℕ Refusal)) (ex : x ≡ transfer_answer call) where
    pub transfer_refused : (r : Refusal) (n : ℕ) (y : Lent) → x ≡ Err r → n ≤ a.rows + length a.values → WeightsStage a s damping memory n y
    unfolding transfer_answer
    transfer_refused r n y e most = record {
      few = most;
      rows = λ p d es bg ld h.
          let q : Err r ≡ Ok (length (joined_lists (rows_of d p.ids))) = sym e ∙ ex ∙ ap transfer_answer (call_is p d es bg ld h) in
          absurd (cc);
    }

    counted : (n : ℕ) (ws : List (List Entry)) → x ≡ Ok n → call ≡ done ws → n ≡ length (joined_lists ws)
    unfolding transfer_answer
    counted n ws e k = let q : Ok n ≡ Ok (length (joined_lists ws)) = sym e ∙ ex ∙ ap transfer_answer k in cc

    module _ (basis : s.basis ≡ JacobiSmoothed) (n transfers : ℕ) (e : x ≡ Ok n) (most : transfers ≤ a.rows + length a.values) (same : n ≤ a.rows + length a.values → transfers ≡ n)
        (backInts : List ℕ) (backFloats : List Float) (ei : backInts ≡ ints_left call lent_ints) (ef : backFloats ≡ floats_left call lent_floats)
        (ints1 workInts1 : List ℕ) (floats1 workFloats1 : List Float) where
      abbrev mid_ints : List ℕ
      mid_ints = backInts ++ drop few_ints cleared

      abbrev mid_floats : List Float
      mid_floats = backFloats ++ drop few_floats memory.work_floats

      pub weights_kept : length mid_ints ≡ length memory.work_ints → length mid_floats ≡ length memory.work_floats → MovedInts s.nodes (a.rows + 1 + transfers) placed mid_ints ints1 workInts1 → MovedFloats used (used + a.rows) transfers memory.floats mid_floats floats1 workFloats1
          → length ints1 ≡ length memory.ints → length floats1 ≡ length memory.floats → length workInts1 ≡ length memory.work_ints → length workFloats1 ≡ length memory.work_floats
          → WeightsStage a s damping memory transfers (lent_of ints1 floats1 workInts1 workFloats1)
      unfolding ints_left floats_left result_left ◌>>=◌ transfer_ints transfer_floats transferred filled
      weights_kept lmi lmf mi mf li lf lwi lwf = record {
        few = most;
        rows = λ p d es bg ld h.
            let ws = rows_of d p.ids in
            let is : call ≡ done ws = call_is p d es bg ld h in
            let cn : n ≡ length (joined_lists ws) = counted n ws e is in
            let few' : n ≤ a.rows + length a.values = rw cn (few_rows_lem d p.ids) in
            let t : length (numbers_of ws) ≡ transfers = values_length ws ∙ sym cn ∙ sym (same few') in
            let v : Weighted a.rows s.coarse ws = weighted a d damping s.block p.ids s.coarse in
            let all : List ℕ = pointers_from 0 ws ++ columns_of ws in
            let pl : length all ≡ a.rows + 1 + transfers
            = length-append (pointers_from 0 ws) (columns_of ws) ∙ rw (pointers_length 0 ws, v.many, columns_length ws) (ap (λ m. suc a.rows + m) (sym (values_length ws) ∙ t) ∙ one a.rows transfers) in
            let i1 : mid_ints ≡ padded 0 (length mid_ints) all
            = put_padded 0 few_ints cleared backInts all (cleared_is p d es bg ld h) (omega (arith, lc, w.work_ints)) (rw pl (omega arith)) (ei ∙ ap (λ q. ints_left q lent_ints) is ∙ ap (λ q. padded 0 (length lent_ints) (pointers_from 0 ws ++ q)) (map_joined (λ (q : Entry). q.col) ws))
            ∙ ap (λ m. padded 0 m all) (lc ∙ sym lmi) in
            let f1 : mid_floats ≡ padded zeroᶠ (length mid_floats) (numbers_of ws)
            = put_padded zeroᶠ few_floats memory.work_floats backFloats (numbers_of ws) h.work_floats (omega (arith, w.work_floats)) (rw t (omega arith)) (ef ∙ ap (λ q. floats_left q lent_floats) is ∙ ap (λ q. padded zeroᶠ (length lent_floats) q) (map_joined (λ (q : Entry). q.value) ws))
            ∙ ap (λ m. padded zeroᶠ m (numbers_of ws)) (sym lmf) in
            let ni = nodes_are p d es bg ld h in
            let nf = factors_are p d es bg ld h in
            let sf = floats_are p d es bg ld h in
            let past : drop (used + a.rows) memory.floats ≡ replicate (length memory.floats - (used + a.rows)) zeroᶠ
            = ap (λ q. drop (used + a.rows) q) sf ∙ padded_past zeroᶠ (length memory.floats) (used + a.rows) (p.factors ++ d) (rw (length-append p.factors d, nf, ld) (omega arith)) in
            let ff : take used memory.floats ≡ p.factors = ap (λ q. take used q) sf ∙ padded_front zeroᶠ (length memory.floats) used p.factors d nf in
            let smooth : p.setup.basis ≡ JacobiSmoothed = ap (λ (q : Setup). q.basis) es ∙ basis in (
              sym t,
              record {
                ints = mi.moved all (listed p.ids) i1 pl (omega (arith, lp, w.ints)) (rw (length_tab (coarse_column s.block p.ids) a.rows) (omega arith)) (placed_behind p d es bg ld h)
                    ∙ ap (λ q. q ++ padded 0 (length placed - s.nodes) all) (placed_front p d es bg ld h) ∙ padded_join 0 (length placed) s.nodes p.ids all ni
                    ∙ ap (λ q. padded 0 (length placed) (p.ids ++ transfer_ints q ws)) (sym smooth) ∙ ap (λ m. padded 0 m (p.ids ++ transfer_ints p.setup.basis ws)) (lp ∙ sym li);
                floats = mf.moved (numbers_of ws) f1 t (omega (arith, w.floats)) past ∙ ap (λ q. q ++ padded zeroᶠ (length memory.floats - used) (numbers_of ws)) ff ∙ padded_join zeroᶠ (length memory.floats) used p.factors (numbers_of ws) nf
                    ∙ ap (λ q. padded zeroᶠ (length memory.floats) q) (sym (ap (λ q. p.factors ++ numbers_of ws ++ q) bg.sound.coarse ∙ append-nil (p.factors ++ numbers_of ws))) ∙ ap (λ m. padded zeroᶠ m (p.factors ++ numbers_of ws ++ p.coarse)) (sym lf);
                work_ints = mi.clear all i1 pl ∙ ap (λ m. replicate m 0) (lmi ∙ sym lwi);
                work_floats = mf.clear (numbers_of ws) f1 t ∙ ap (λ m. replicate m zeroᶠ) (lmf ∙ sym lwf);
              },
            );
      }
        where
          one : (x y : ℕ) → suc x + y ≡ x + 1 + y
          one x y = omega arith

-- ---- one list's move

-- a list copied over another that is zero behind it
copied_padded : {A : Type 0} (z : A) (xs s : List A) (n : ℕ) → length s ≡ n → length xs ≤ n → drop (length xs) s ≡ replicate (n - length xs) z → copied xs s ≡ padded z n xs
unfolding copied padded
copied_padded z xs s n l h e = rw (l, take_all n xs h, e)

-- the coarse columns, listed at the front of a work list of zeros and moved behind the ids
module _ (size nodes rows : ℕ) (ints work back ints1 work1 : List ℕ) (hw : rows ≤ length work) (hi : nodes + rows ≤ length ints) (ls : Listed size (take nodes ints) (take rows work) back)
    (lw : length (back ++ drop rows work) ≡ length work) (mv : MovedInts nodes rows ints (back ++ drop rows work) ints1 work1) where
  module _ (ids : List ℕ) (e : ints ≡ padded 0 (length ints) ids) (l : length ids ≡ nodes) (b : Each (λ g. g ≤ max_coarse) ids) (z : work ≡ replicate (length work) 0) where
    abbrev columns : List ℕ
    columns = tab (coarse_column size ids) rows

    columns_long : length columns ≡ rows
    columns_long = length_tab (coarse_column size ids) rows

    front : take nodes ints ≡ ids
    front = ap (λ t. take nodes t) e ∙ padded_all 0 (length ints) nodes ids l

    behind : drop nodes ints ≡ padded 0 (length ints - nodes) []
    behind = ap (λ t. drop nodes t) e ∙ padded_past 0 (length ints) nodes ids (omega (arith, l)) ∙ sym (padded_none 0 (length ints - nodes))

    made : back ≡ padded 0 (length (take rows work)) columns
    made = listed_made size nodes rows ints work back ids hw front ls b ∙ sym (padded_full 0 (length (take rows work)) columns (columns_long ∙ sym (length-take-le rows work hw)))

    mid : back ++ drop rows work ≡ padded 0 (length (back ++ drop rows work)) columns
    mid = put_padded 0 rows work back columns z hw (rw columns_long (omega arith)) made ∙ ap (λ n. padded 0 n columns) (sym lw)

    moved_columns : (ints1 ≡ padded 0 (length ints) (ids ++ columns)) × (work1 ≡ replicate (length work) 0)
    moved_columns = (
      mv.moved columns [] mid columns_long hi (omega arith) behind ∙ ap (λ t. t ++ padded 0 (length ints - nodes) columns) front ∙ padded_join 0 (length ints) nodes ids columns l,
      mv.clear columns mid columns_long ∙ ap (λ n. replicate n 0) lw,
    )

  pub columns_moved : ColumnsPlaced size nodes rows ints work ints1 work1
  columns_moved ids e l b z = moved_columns ids e l b z

module _ (at count : ℕ) where
  front_is : {A : Type 0} (z : A) (from xs : List A) → from ≡ padded z (length from) xs → length xs ≡ count → take count from ≡ xs
  front_is z from xs e l = ap (λ s. take count s) e ∙ padded_all z (length from) count xs l

  front_cleared : {A : Type 0} (z : A) (from xs zeros : List A) → from ≡ padded z (length from) xs → length xs ≡ count → count ≤ length from → zeros ≡ replicate (length (take count from)) z → zeros ++ drop count from ≡ replicate (length from) z
  front_cleared z from xs zeros e l h ez =
      let d : drop count from ≡ replicate (length from - count) z = ap (λ s. drop count s) e ∙ padded_past z (length from) count xs (omega (arith, l)) in
      let n : count + (length from - count) ≡ length from = omega arith in
      ap (λ s. s ++ drop count from) (ez ∙ ap (λ m. replicate m z) (length-take-le count from h)) ∙ ap (λ s. replicate count z ++ s) d ∙ replicate-append-replicate count (length from - count) z ∙ ap (λ m. replicate m z) n

  pub moved_ints : (to from more zeros : List ℕ) → count ≤ length from → more ≡ copied (take count from) (take (length to - at) (drop at to)) → zeros ≡ replicate (length (take count from)) 0
      → MovedInts at count to from (put_mid at (length to - at) to more) (zeros ++ drop count from)
  moved_ints to from more zeros hc em ez = record {
    moved = λ xs ys e l h k z.
        let t : take (length to - at) (drop at to) ≡ padded 0 (length to - at) ys = tail_is at to ∙ z in
        put_tail at to more ∙ ap (λ s. take at to ++ s) (em ∙ rw (front_is 0 from xs e l, t) (copied_longer 0 (length to - at) ys xs (omega arith) (omega arith)));
    clear = λ xs e l. front_cleared 0 from xs zeros e l hc ez;
  }

  -- what was cleared of what stood there reaches from behind the moved part, or before its end, up to `end`
  pub moved_floats : (last end : ℕ) (to from blanks more zeros : List Float) → at ≤ last → last ≤ at + count → last ≤ end → end ≤ length to → count ≤ length from → blanks ≡ replicate (length (between last end to)) zeroᶠ
      → more ≡ copied (take count from) (take (length (put_mid last (end - last) to blanks) - at) (drop at (put_mid last (end - last) to blanks))) → length (put_mid last (end - last) to blanks) ≡ length to
      → zeros ≡ replicate (length (take count from)) zeroᶠ → MovedFloats at end count to from (put_mid at (length (put_mid last (end - last) to blanks) - at) (put_mid last (end - last) to blanks) more) (zeros ++ drop count from)
  moved_floats last end to from blanks more zeros ha hl hm he hc eb em lm ez = record {
    moved = λ xs e l h z.
        let mid = put_mid last (end - last) to blanks in
        let far : last + (at + count - last) ≡ at + count = omega arith in
        let rest : length to - last - (at + count - last) ≡ length to - at - count = omega arith in
        let back : drop count (drop at mid) ≡ replicate (length to - at - count) zeroᶠ =
        drop-drop count at mid ∙ ap (λ k. drop k mid) (sym far) ∙ sym (drop-drop (at + count - last) last mid) ∙ ap (λ s. drop (at + count - last) s) (tail_cleared zeroᶠ last end to blanks hm he eb z)
        ∙ drop_replicate zeroᶠ (at + count - last) (length to - last) ∙ ap (λ m. replicate m zeroᶠ) rest in
        let long : length (drop at mid) ≡ length to - at = length-drop at mid ∙ ap (λ m. m - at) lm in
        put_tail at mid more ∙ ap (λ s. s ++ more) (sym (take-take at last mid ha) ∙ ap (take at) (take_put last (end - last) to blanks (omega arith)) ∙ take-take at last to ha)
        ∙ ap (λ s. take at to ++ s) (em ∙ rw (front_is zeroᶠ from xs e l, tail_is at mid) (copied_padded zeroᶠ xs (drop at mid) (length to - at) long (omega arith) (rw l back)));
    clear = λ xs e l. front_cleared zeroᶠ from xs zeros e l hc ez;
  }
