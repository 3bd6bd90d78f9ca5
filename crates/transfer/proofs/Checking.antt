-- The checks that follow those of the matrix: the answer at each return, and what an accepted call knows.
use Rattle.std.specs.Prelude.{Err, Ok}
use Prim.Native.Nat.{ℕ, ◌+◌, ◌*◌, ◌/◌, ◌%◌, ◌<◌, ◌≤◌}
use mathlib.Core.Path.{◌≡◌}
use mathlib.Core.Bool.{true, false, not}
use mathlib.Core.List.{List}
use native.Mathlib.Omega.{arith}
use native.Mathlib.Nat.{div-add-mod', mod-lt, div-lt_iff_lt-mul, mul-le-mul_right}
use lib.Dec.{eqb, leb}
use lib.ListN.{length, get_or}
use borrow.Author.Tests.{eq-eqb, ne_eqb, le-leb, lt-leb, eqb-true, leb-true, not-true}
use Rattle.definitions.specs.Lists.{any}
use Rattle.definitions.specs.Refusal.{require, ◌>>=◌}
use Rattle.definitions.specs.Answers.{answer_of}
use Rattle.definitions.specs.Block.{max_block}
use Rattle.definitions.specs.Setup.{max_coarse}
use Rattle.definitions.specs.Transfer.{coarse_column}
use Rattle.definitions.specs.declared.Refusal.TheVariants.{NotSquare, BlockSize, NotMultiple, ListTooShort, CoarseTooLarge, CoarseListTooShort, WrongLength, SetupMisfit}
use Rattle.csr32.specs.Calls.{accepted_done}
use Rattle.laws.proofs.Tests.{both_true}
use Rattle.laws.proofs.Scans.{all_below_lem}
use Rattle.laws.proofs.Outcomes.{test_true, last_true}
use Rattle.laws.specs.Bounds.{Grouped}
use Rattle.transfer.specs.Call.{shape_checked, groups_checked}

-- ---- 9, 10, 12, 13

module _ (rows cols entries size ints floats : ℕ) where
  pub not_square : (cols ≡ rows → ⊥) → Err NotSquare ≡ answer_of (shape_checked rows cols entries size ints floats)
  unfolding shape_checked require ◌>>=◌ answer_of
  not_square n = rw (ne_eqb cols rows n)

  module _ (square : cols ≡ rows) where
    pub size_none : size < 1 → Err BlockSize ≡ answer_of (shape_checked rows cols entries size ints floats)
    unfolding shape_checked require ◌>>=◌ answer_of
    size_none h = rw (eq-eqb cols rows square, lt-leb 1 size h)

    pub size_large : 1 ≤ size → max_block < size → Err BlockSize ≡ answer_of (shape_checked rows cols entries size ints floats)
    unfolding shape_checked require ◌>>=◌ answer_of
    size_large l h = rw (eq-eqb cols rows square, le-leb 1 size l, lt-leb size max_block h)

    module _ (some : 1 ≤ size) (few : size ≤ max_block) where
      pub not_multiple : (rows % size ≡ 0 → ⊥) → Err NotMultiple ≡ answer_of (shape_checked rows cols entries size ints floats)
      unfolding shape_checked require ◌>>=◌ answer_of
      not_multiple n = rw (eq-eqb cols rows square, le-leb 1 size some, le-leb size max_block few, ne_eqb (rows % size) 0 n)

      module _ (whole : rows % size ≡ 0) where
        pub ints_short : ints < 2 * rows + entries + 1 → Err ListTooShort ≡ answer_of (shape_checked rows cols entries size ints floats)
        unfolding shape_checked require ◌>>=◌ answer_of
        ints_short h = rw (eq-eqb cols rows square, le-leb 1 size some, le-leb size max_block few, eq-eqb (rows % size) 0 whole, lt-leb (2 * rows + entries + 1) ints h)

        pub floats_short : 2 * rows + entries + 1 ≤ ints → floats < rows + entries → Err ListTooShort ≡ answer_of (shape_checked rows cols entries size ints floats)
        unfolding shape_checked require ◌>>=◌ answer_of
        floats_short l h = rw (eq-eqb cols rows square, le-leb 1 size some, le-leb size max_block few, eq-eqb (rows % size) 0 whole, le-leb (2 * rows + entries + 1) ints l, lt-leb (rows + entries) floats h)

        pub shape_passed : 2 * rows + entries + 1 ≤ ints → rows + entries ≤ floats → (Ok tt) ≡ answer_of (shape_checked rows cols entries size ints floats)
        unfolding shape_checked require ◌>>=◌ answer_of
        shape_passed l h = rw (eq-eqb cols rows square, le-leb 1 size some, le-leb size max_block few, eq-eqb (rows % size) 0 whole, le-leb (2 * rows + entries + 1) ints l, le-leb (rows + entries) floats h)

-- ---- 17, 18, 25, 26

module _ (rows entries size : ℕ) (ids : List ℕ) (count diagonal ints floats : ℕ) where
  pub too_large : max_coarse < count * size → Err (CoarseTooLarge (count * size)) ≡ answer_of (groups_checked rows entries size ids count diagonal ints floats)
  unfolding groups_checked require ◌>>=◌ answer_of
  too_large h = rw (lt-leb (count * size) max_coarse h)

  module _ (small : count * size ≤ max_coarse) where
    pub coarse_ints : ints < 2 * rows + entries + 1 + 2 * (count * size) → Err (CoarseListTooShort (count * size)) ≡ answer_of (groups_checked rows entries size ids count diagonal ints floats)
    unfolding groups_checked require ◌>>=◌ answer_of
    coarse_ints h = rw (le-leb (count * size) max_coarse small, lt-leb (2 * rows + entries + 1 + 2 * (count * size)) ints h)

    module _ (wide : 2 * rows + entries + 1 + 2 * (count * size) ≤ ints) where
      pub coarse_floats : floats < rows + entries + count * size → Err (CoarseListTooShort (count * size)) ≡ answer_of (groups_checked rows entries size ids count diagonal ints floats)
      unfolding groups_checked require ◌>>=◌ answer_of
      coarse_floats h = rw (le-leb (count * size) max_coarse small, le-leb (2 * rows + entries + 1 + 2 * (count * size)) ints wide, lt-leb (rows + entries + count * size) floats h)

      module _ (long : rows + entries + count * size ≤ floats) where
        pub wrong_diagonal : (diagonal ≡ rows → ⊥) → Err (WrongLength rows diagonal) ≡ answer_of (groups_checked rows entries size ids count diagonal ints floats)
        unfolding groups_checked require ◌>>=◌ answer_of
        wrong_diagonal n = rw (le-leb (count * size) max_coarse small, le-leb (2 * rows + entries + 1 + 2 * (count * size)) ints wide, le-leb (rows + entries + count * size) floats long, ne_eqb diagonal rows n)

        module _ (full : diagonal ≡ rows) where
          pub other_ids : (length ids ≡ rows / size → ⊥) → Err SetupMisfit ≡ answer_of (groups_checked rows entries size ids count diagonal ints floats)
          unfolding groups_checked require ◌>>=◌ answer_of
          other_ids n = rw (le-leb (count * size) max_coarse small, le-leb (2 * rows + entries + 1 + 2 * (count * size)) ints wide, le-leb (rows + entries + count * size) floats long, eq-eqb diagonal rows full, ne_eqb (length ids) (rows / size) n)

          module _ (each : length ids ≡ rows / size) where
            pub id_outside : any (λ g. leb count g) ids ≡ true → Err SetupMisfit ≡ answer_of (groups_checked rows entries size ids count diagonal ints floats)
            unfolding groups_checked require ◌>>=◌ answer_of
            id_outside h = rw (le-leb (count * size) max_coarse small, le-leb (2 * rows + entries + 1 + 2 * (count * size)) ints wide, le-leb (rows + entries + count * size) floats long, eq-eqb diagonal rows full, eq-eqb (length ids) (rows / size) each, h)

            pub groups_passed : any (λ g. leb count g) ids ≡ false → (Ok tt) ≡ answer_of (groups_checked rows entries size ids count diagonal ints floats)
            unfolding groups_checked require ◌>>=◌ answer_of
            groups_passed h = rw (le-leb (count * size) max_coarse small, le-leb (2 * rows + entries + 1 + 2 * (count * size)) ints wide, le-leb (rows + entries + count * size) floats long, eq-eqb diagonal rows full, eq-eqb (length ids) (rows / size) each, h)

-- ---- what passed checks say

pub shape_facts : (rows cols entries size ints floats : ℕ) → answer_of (shape_checked rows cols entries size ints floats) ≡ (Ok tt) → (cols ≡ rows) × (1 ≤ size) × (size ≤ 8) × (rows % size ≡ 0)
unfolding shape_checked
shape_facts rows cols entries size ints floats h =
    let p1 = test_true _ _ _ _ (accepted_done _ h) in
    let p2 = test_true _ _ _ _ p1.1 in
    let s = both_true (leb 1 size) (leb size max_block) p2.0 in
    let p3 = test_true _ _ _ _ p2.1 in
    (eqb-true _ _ p1.0, leb-true _ _ s.0, leb-true _ _ s.1, eqb-true _ _ p3.0)

-- a row's id, and its coarse column
within_law : (id size groups r : ℕ) → id < groups → r < size → id * size + r < groups * size
within_law id size groups r h l = omega (arith, mul-le-mul_right size h)

pub groups_facts : (rows entries size : ℕ) (ids : List ℕ) (groups diagonal ints floats : ℕ) → 1 ≤ size → rows % size ≡ 0 → answer_of (groups_checked rows entries size ids groups diagonal ints floats) ≡ (Ok tt)
    → (diagonal ≡ rows) × ((groups * size ≤ 2_048) × Grouped size ids rows (groups * size)) × ((2 * rows + entries + 1 + 2 * (groups * size) ≤ ints) × (rows + entries + groups * size ≤ floats))
unfolding groups_checked coarse_column
groups_facts rows entries size ids groups diagonal ints floats some whole h =
    let p1 = test_true _ _ _ _ (accepted_done _ h) in
    let p2 = test_true _ _ _ _ p1.1 in
    let r = both_true (leb (2 * rows + entries + 1 + 2 * (groups * size)) ints) (leb (rows + entries + groups * size) floats) p2.0 in
    let p3 = test_true _ _ _ _ p2.1 in
    let s = both_true (eqb (length ids) (rows / size)) (not (any (λ g. leb groups g) ids)) (last_true _ _ p3.1) in
    let small : groups * size ≤ 2_048 = leb-true _ _ p1.0 in
    let long : length ids ≡ rows / size = eqb-true _ _ s.0 in
    let below = all_below_lem groups ids (not-true _ s.1) in
    let full : rows / size * size ≡ rows = omega (arith, div-add-mod' rows size, whole) in
    let known : (i : ℕ) → i < rows → i / size < length ids = λ i l. rw long ((div-lt_iff_lt-mul some).1 (rw full l)) in (
      eqb-true _ _ p3.0,
      (
        small,
        record {
          some = some;
          known = known;
          within = λ i l. within_law (get_or ids (i / size) 0) size groups (i % size) (below (i / size) (known i l)) (mod-lt i some);
          small = omega arith;
        },
      ),
      (leb-true _ _ r.0, leb-true _ _ r.1),
    )
