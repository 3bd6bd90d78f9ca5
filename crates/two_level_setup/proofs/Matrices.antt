-- The coarse matrix: no check of its calls fails, by either basis.
use mathlib.Core.Path.{◌≡◌, refl, ap, sym, ◌∙◌, subst, fun_ext}
use mathlib.Core.Bool.{Bool, true, false, not}
use mathlib.Core.List.{List, [], ◌++◌, map, zip_with, append-nil, append_assoc}
use Prim.Native.Nat.{ℕ, zero, suc, ◌+◌, ◌-◌, ◌*◌, ◌/◌, ◌%◌, ◌≤◌, ◌<◌}
use native.Mathlib.Omega.{arith}
use lib.Dec.{T, leb}
use lib.Seq.{slice, take_at, drop_at, length-take-le}
use native.Mathlib.Decide.{dec_lt}
use lib.ListN.{length, take, drop, replicate, get_or, get_or-eq_default}
use lib.Ieee.{Float}
use borrow.Author.Tests.{le-leb, eq-eqb}
use Rattle.definitions.specs.Lists.{tab, padded, between, square, pointers_from, any, falls}
use Rattle.definitions.specs.Numbers.{zeroᶠ}
use Rattle.definitions.specs.Refusal.{Outcome, done, result_left, work_left}
use Rattle.definitions.specs.Matrix.{Matrix, Entry, max_rows, structure_of, row_of}
use Rattle.definitions.specs.Transfer.{coarse_column}
use Rattle.definitions.specs.Coarse.{constant_entry, galerkin_entry, averaged_square}
use Rattle.definitions.specs.Setup.{coarse_entry, transfer_ints, transfer_floats, lent_of}
use Rattle.definitions.specs.declared.Setup.{Setup}
use Rattle.definitions.specs.declared.TwoLevelBasis.TheVariants.{PiecewiseConstant, JacobiSmoothed}
use Rattle.definitions.specs.declared.Refusal.TheVariants.{TooLarge, NotSquare, BlockSize, NotMultiple, CoarseTooLarge, CoarseListTooShort, SetupMisfit}
use Rattle.laws.proofs.Scans.{below_none}
use Rattle.laws.proofs.Lists.{Each, length_tab, each_map, each_flat_map, each_imp, part_mid}
use Rattle.laws.proofs.Csr.{columns_of, numbers_of, pointers_length, pointers_first, pointers_last, pointers_rise, columns_length, values_length, row_back_lem}
use Rattle.laws.proofs.SetupLists.{pointers_read, columns_read}
use Rattle.csr32.specs.Calls.{goes_on, passed}
use Rattle.csr32.specs.Rows.{valid_structure}
use Rattle.coarse_matrix.specs.Calls.{constant_checks, constant_checked, constant_coarse_call, transfer_fits, galerkin_checks, galerkin_checked, galerkin_coarse_call}
use Rattle.two_level_setup.specs.Stages.{Parts, matrix_of}
use Rattle.two_level_setup.specs.Fit.{MatrixFit}
use Rattle.two_level_setup.specs.Promises.{room_in, Holds, Weighted, Weighed, Listed, MatrixStage}
use Rattle.two_level_setup.proofs.Padding.{padded_front}
use Rattle.two_level_setup.proofs.Lending.{put_zeros}
use Rattle.two_level_setup.proofs.Columns.{whole_nodes, ids_small, listed_made, listed_below, constant_listed}

-- rows laid end to end read back, those past the end as well
row_all : (rows : List (List Entry)) (i : ℕ) → row_of (pointers_from 0 rows) (columns_of rows) (numbers_of rows) i ≡ get_or rows i []
unfolding row_of zip_with
row_all rows i = elim (dec_lt i (length rows)) [
  | yes h ↦ row_back_lem rows i h
  | no h ↦ (
      let past : length (pointers_from 0 rows) ≤ suc i = rw (pointers_length 0 rows) (omega (arith, h)) in
      let z : get_or (pointers_from 0 rows) (suc i) 0 ≡ 0 = get_or-eq_default (pointers_from 0 rows) 0 {n = suc i} past in
      let y : get_or rows i [] ≡ [] = get_or-eq_default rows [] {n = i} (omega (arith, h)) in
      rw (z, y) (empty (get_or (pointers_from 0 rows) i 0))
      )
]
  where
    empty : (k : ℕ) → zip_with {C = Entry} (λ c v. record { col = c; value = v }) (slice k 0 (columns_of rows)) (slice k 0 (numbers_of rows)) ≡ []
    empty zero = refl
    empty (suc k) = refl

is_true : (b : Bool) → T b → b ≡ true
is_true true t = refl
is_true false t = elim t [ ]

module _ (a : Matrix) (s : Setup) (ints : List ℕ) (floats : List Float) (work_ints : List ℕ) (work_floats : List Float) (w : MatrixFit a s (room_in (lent_of ints floats work_ints work_floats))) where
  abbrev n : ℕ
  n = s.nodes

  abbrev used : ℕ
  used = a.rows * s.block

  abbrev c : ℕ
  c = s.coarse

  module _ (p : Parts) (es : p.setup ≡ s) (wd : Weighed a p) (h : Holds p (lent_of ints floats work_ints work_floats)) where
    ids_long : length p.ids ≡ n
    ids_long = wd.sound.ids ∙ ap (λ (t : Setup). t.nodes) es

    factors_long : length p.factors ≡ used
    factors_long = wd.sound.factors ∙ ap (λ (t : Setup). a.rows * t.block) es

    rows_many : length (numbers_of p.weights) ≡ s.transfers
    unfolding transfer_floats
    rows_many = wd.sound.transfers ∙ ap (λ (t : Setup). t.transfers) es

    ids_below : Each (λ x. x < s.groups) p.ids
    ids_below = subst (λ (t : Setup). Each (λ x. x < t.groups) p.ids) es wd.sound.below

  -- ---- the basis that is constant over a group

  abbrev listed : List ℕ → List ℕ
  listed ids = tab (coarse_column s.block ids) a.rows

  constant_passes : (ids : List ℕ) → length ids ≡ n → Each (λ x. x < s.groups) ids
      → constant_coarse_call a 1 (listed ids) c (length work_floats) ≡ done (averaged_square c (square c (constant_entry a (coarse_column s.block ids))))
  unfolding constant_coarse_call constant_checked constant_checks
  constant_passes ids l e =
      let f = w.front in
      let m = w.counted in
      let one : c * 1 ≡ c = omega arith in
      let z : a.rows % 1 ≡ 0 = omega arith in
      let long : length (listed ids) ≡ a.rows / 1 = length_tab (coarse_column s.block ids) a.rows ∙ omega arith in
      let below : Each (λ j. j < c) (listed ids) = rw m.coarse (listed_below s.block ids a.rows s.groups f.least (rw l (whole_nodes a.rows s.block n f.whole m.nodes)) e) in
      goes_on _ tt _ (goes_on _ tt _ (passed _ TooLarge (le-leb c max_rows (omega (arith, w.small))))
      ∙ goes_on (structure_of a) tt _ (valid_structure a f.valid)
      ∙ goes_on _ tt _ (passed _ NotSquare (eq-eqb a.rows a.cols (sym f.square)))
      ∙ goes_on _ tt _ (passed _ BlockSize refl)
      ∙ goes_on _ tt _ (passed _ NotMultiple (eq-eqb (a.rows % 1) 0 z))
      ∙ goes_on _ tt _ (passed _ (CoarseTooLarge (c * 1)) (le-leb (c * 1) 2048 (rw one w.small)))
      ∙ goes_on _ tt _ (passed _ (CoarseListTooShort (c * 1)) (rw one (le-leb (c * c) (length work_floats) (omega (arith, w.work_floats)))))
      ∙ passed _ SetupMisfit (rw (eq-eqb (length (listed ids)) (a.rows / 1) long, below_none c below)))
      ∙ ap (λ k. done (averaged_square k (square k (constant_entry a (coarse_column 1 (listed ids)))))) one
      ∙ ap (λ f. done (averaged_square c (square c f))) (constant_listed s.block ids a.rows a f.valid f.square refl)

  -- the columns listed in the front of the work integers, read there, and cleared
  module _ (basis : s.basis ≡ PiecewiseConstant) (back zeros : List ℕ) (lb : length back ≡ length (take a.rows work_ints)) (ls : Listed s.block (take n ints) (take a.rows work_ints) back) where
    abbrev mid : List ℕ
    mid = back ++ drop a.rows work_ints

    pub constant_made : (workFloats' : List Float) → workFloats' ≡ result_left zeroᶠ (constant_coarse_call a 1 (take a.rows mid) c (length work_floats)) work_floats
        → zeros ≡ replicate (length (take a.rows mid)) 0 → MatrixStage a s ints floats work_ints work_floats (zeros ++ drop a.rows mid) workFloats'
    unfolding result_left matrix_of coarse_entry
    constant_made workFloats' e ez p es wd h =
        let ni = ids_long p es wd h in
        let below = ids_below p es wd h in
        let long : length (take a.rows work_ints) ≡ a.rows = length-take-le a.rows work_ints (omega (arith, w.work_ints)) in
        let r : take n ints ≡ p.ids = ap (λ l. take n l) h.ints ∙ padded_front 0 (length ints) n p.ids (transfer_ints p.setup.basis p.weights) ni in
        let made : back ≡ listed p.ids
        = listed_made s.block n a.rows ints work_ints back p.ids (omega (arith, w.work_ints)) r ls (ids_small s.groups s.block w.front.least (subst (λ m. m ≤ 2048) w.counted.coarse w.small) below) in
        let front : take a.rows mid ≡ back = take_at back (drop a.rows work_ints) a.rows (lb ∙ long) in
        let rest : drop a.rows mid ≡ drop a.rows work_ints = drop_at back (drop a.rows work_ints) a.rows (lb ∙ long) in
        let k : constant_coarse_call a 1 (take a.rows mid) c (length work_floats) ≡ done (averaged_square c (square c (constant_entry a (coarse_column s.block p.ids))))
        = ap (λ l. constant_coarse_call a 1 l c (length work_floats)) (front ∙ made) ∙ constant_passes p.ids ni below in (
          ap (λ l. zeros ++ l) rest ∙ put_zeros 0 a.rows work_ints zeros h.work_ints (ez ∙ ap (λ l. replicate (length l) 0) front ∙ ap (λ m. replicate m 0) lb),
          e ∙ ap (λ x. result_left zeroᶠ x work_floats) k ∙ rw (es, basis),
        )

  -- ---- the smoothed basis

  fits_passes : (ws : List (List Entry)) → Weighted a.rows c ws → transfer_fits a.rows c (pointers_from 0 ws) (columns_of ws) (length (numbers_of ws)) ≡ true
  unfolding transfer_fits
  fits_passes ws v =
      let l : length (pointers_from 0 ws) ≡ a.rows + 1 = pointers_length 0 ws ∙ rw v.many (omega arith) in
      let k : length (columns_of ws) ≡ length (numbers_of ws) = columns_length ws ∙ sym (values_length ws) in
      let z : get_or (pointers_from 0 ws) a.rows 0 ≡ length (numbers_of ws) = rw (← v.many) (pointers_last 0 0 ws ∙ plain _ ∙ sym (values_length ws)) in
      let out : any (λ k. leb c k) (columns_of ws) ≡ false = below_none c (each_flat_map (λ row. map (λ e. e.col) row) (each_imp (λ row h. each_map (λ e. e.col) h) v.below)) in
      rw (
        eq-eqb (length (pointers_from 0 ws)) (a.rows + 1) l,
        eq-eqb (length (columns_of ws)) (length (numbers_of ws)) k,
        eq-eqb (get_or (pointers_from 0 ws) 0 1) 0 (pointers_first 0 1 ws),
        eq-eqb (get_or (pointers_from 0 ws) a.rows 0) (length (numbers_of ws)) z,
        is_true (not (falls (pointers_from 0 ws))) (pointers_rise 0 ws),
        out,
      )
    where
      plain : (x : ℕ) → 0 + x ≡ x
      plain x = omega arith

  galerkin_passes : (ws : List (List Entry)) → Weighted a.rows c ws
      → galerkin_coarse_call a c (pointers_from 0 ws) (columns_of ws) (numbers_of ws) (length work_ints) (length work_floats) ≡ done (averaged_square c (square c (galerkin_entry a (λ r. get_or ws r []))))
  unfolding galerkin_coarse_call galerkin_checked galerkin_checks
  galerkin_passes ws v =
      let f = w.front in
      goes_on _ tt _ (goes_on (structure_of a) tt _ (valid_structure a f.valid)
      ∙ goes_on _ tt _ (passed _ NotSquare (eq-eqb a.rows a.cols (sym f.square)))
      ∙ goes_on _ tt _ (passed _ (CoarseTooLarge c) (le-leb c 2048 w.small))
      ∙ goes_on _ tt _ (passed _ (CoarseListTooShort c) (rw (le-leb (2 * c) (length work_ints) (omega (arith, w.work_ints)), le-leb (c * c + c) (length work_floats) (omega (arith, w.work_floats)))))
      ∙ passed _ SetupMisfit (fits_passes ws v))
      ∙ ap (λ t. done (averaged_square c (square c (galerkin_entry a t)))) (fun_ext (λ r. row_all ws r))

  abbrev call : Outcome (List Float)
  call = galerkin_coarse_call a c (between n (n + a.rows + 1) ints) (between (n + a.rows + 1) (n + a.rows + 1 + s.transfers) ints) (between used (used + s.transfers) floats) (length work_ints) (length work_floats)

  pub galerkin_made : s.basis ≡ JacobiSmoothed → (workInts' : List ℕ) (workFloats' : List Float)
      → workFloats' ≡ result_left zeroᶠ call work_floats → workInts' ≡ work_left 0 call work_ints → MatrixStage a s ints floats work_ints work_floats workInts' workFloats'
  unfolding result_left work_left matrix_of coarse_entry transfer_floats padded
  galerkin_made b workInts' workFloats' e d p es wd h =
      let ws = p.weights in
      let smooth : p.setup.basis ≡ JacobiSmoothed = ap (λ (q : Setup). q.basis) es ∙ b in
      let v : Weighted a.rows c ws = subst (λ (q : Setup). Weighted a.rows q.coarse ws) es (wd.weights smooth) in
      let ni = ids_long p es wd h in
      let m = rows_many p es wd h in
      let zs : List ℕ = replicate (length ints - length (p.ids ++ transfer_ints JacobiSmoothed ws)) 0 in
      let si : ints ≡ (p.ids ++ transfer_ints JacobiSmoothed ws) ++ zs = subst (λ q. ints ≡ padded 0 (length ints) (p.ids ++ transfer_ints q ws)) smooth h.ints in
      let p1 : between n (n + a.rows + 1) ints ≡ pointers_from 0 ws = ap (λ l. between n (n + a.rows + 1) l) si ∙ pointers_read p.ids zs ws n a.rows ni v.many in
      let p2 : between (n + a.rows + 1) (n + a.rows + 1 + s.transfers) ints ≡ columns_of ws
      = ap (λ t. between (n + a.rows + 1) (n + a.rows + 1 + t) ints) (sym m) ∙ ap (λ l. between (n + a.rows + 1) (n + a.rows + 1 + length (numbers_of ws)) l) si ∙ columns_read p.ids zs ws n a.rows ni v.many in
      let rest : List Float = replicate (length floats - length (p.factors ++ numbers_of ws)) zeroᶠ in
      let sf : floats ≡ (p.factors ++ numbers_of ws) ++ rest = h.floats ∙ ap (λ q. padded zeroᶠ (length floats) q) (ap (λ q. p.factors ++ numbers_of ws ++ q) wd.sound.coarse ∙ append-nil (p.factors ++ numbers_of ws)) in
      let p3 : between used (used + s.transfers) floats ≡ numbers_of ws
      = ap (λ l. between used (used + s.transfers) l) (sf ∙ append_assoc p.factors (numbers_of ws) rest) ∙ part_mid p.factors (numbers_of ws) rest used (used + s.transfers) (factors_long p es wd h) (ap (λ t. used + t) m) in
      let k : call ≡ done (averaged_square c (square c (galerkin_entry a (λ r. get_or ws r [])))) = rw (p1, p2, p3) (galerkin_passes ws v) in
      (d ∙ ap (λ x. work_left 0 x work_ints) k, e ∙ ap (λ x. result_left zeroᶠ x work_floats) k ∙ rw (es, b))
