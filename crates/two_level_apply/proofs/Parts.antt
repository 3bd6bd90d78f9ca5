-- What a setup that fits its record says of the parts of its lists: ids below the group count, compressed rows, room for every part.
use Prim.Native.Nat.{ℕ, suc, ◌+◌, ◌-◌, ◌≤◌}
use mathlib.Core.Path.{◌≡◌, sym, ◌∙◌}
use mathlib.Core.Bool.{Bool, true, false, not, ◌&&◌}
use mathlib.Core.List.{List}
use native.Mathlib.Omega.{arith}
use native.Mathlib.Nat.{mul-le-mul_right}
use lib.Dec.{leb, ltb, eqb}
use lib.ListN.{length, get_or, take, length-take, length-drop}
use lib.Seq.{length-take-le}
use lib.Ieee.{Float}
use borrow.Author.Tests.{leb-true, eqb-true, not-true}
use Rattle.definitions.specs.Lists.{all, falls}
use Rattle.definitions.specs.Places.{ids_in, pointers_in, columns_in, weights_in, used_ints, used_floats}
use Rattle.definitions.specs.Fits.{transfer_fits, setup_fits}
use Rattle.definitions.specs.declared.Setup.{Setup}
use Rattle.definitions.specs.declared.Places.{Places}
use Rattle.definitions.specs.declared.TwoLevelBasis.TheVariants.{JacobiSmoothed}
use Rattle.layout.proofs.Sizes.{at}
use Rattle.std.specs.Prelude.{Option, Some}
use Rattle.setup_record.specs.Sizes.{sizes_fit, fitting_of}
use Rattle.setup_record.proofs.Misfits.{fits_tell}
use Rattle.setup_record.proofs.Limits.{Bounds, Sized, bounds_of, sized_of, ids_room}
use Rattle.laws.specs.Bounds.{Below, Compressed}
use Rattle.laws.proofs.Tests.{both_true, three_true}
use Rattle.laws.proofs.Scans.{all_below_lem, below_all, no_falls, no_falls_to}
use Rattle.two_level_apply.specs.Scatter.{Grouped, Laid}

below : (n : ℕ) (xs : List ℕ) → all (λ k. ltb k n) xs ≡ true → Below n xs
below n xs e = all_below_lem n xs (not-true _ (below_all n xs ∙ e))

-- the tests of the transfer's pointers and columns
rows_fit : (ptr idx : List ℕ) (n c t : ℕ) → (eqb (get_or ptr 0 1) 0 && not (falls ptr) && eqb (get_or ptr n 0) t && all (λ k. ltb k c) idx) ≡ true → length ptr ≡ suc n → length idx ≡ t
    → Compressed n c ptr idx t
rows_fit ptr idx n c t e long same =
    let u = three_true (eqb (get_or ptr 0 1) 0 && not (falls ptr)) (eqb (get_or ptr n 0) t) (all (λ k. ltb k c) idx) e in
    let rising : falls ptr ≡ false = not-true _ (both_true (eqb (get_or ptr 0 1) 0) (not (falls ptr)) u.0).1 in
    let last : get_or ptr n 0 ≡ t = eqb-true _ _ u.1 in
    record {
      long = long;
      rises = λ i h. no_falls ptr rising i (omega arith);
      ends = λ i h. let q : i + (n - i) ≡ n = omega arith in rw (← last) (rw q at (no_falls_to ptr rising (n - i) i (omega arith)));
      same = same;
      within = below c idx u.2;
    }

-- where the parts stand within lists of i integers and f floats
pub record Room (p : Places) (i f : ℕ) : Type 0 where
  pub pointers : p.pointers ≤ i
  pub weights : p.weights ≤ p.coarse
  pub coarse : p.coarse ≤ p.floats
  pub floats : p.floats ≤ f

-- and those of a smoothed transfer
pub record TransferRoom (p : Places) (i : ℕ) : Type 0 where
  pub pointers : p.pointers ≤ p.columns
  pub columns : p.columns ≤ p.ints
  pub ints : p.ints ≤ i

-- what the check of the record answers
pub laid : (s : Setup) (ints : List ℕ) (floats : List Float) (r : Option Places) → r ≡ fitting_of s ints floats → (p : Places) → r ≡ Some p → Laid s p ints floats
laid s ints floats r e p f = let t = fits_tell s ints floats r e p f in record { fits = t.0; places = t.1 }

module _ (s : Setup) (p : Places) (ints : List ℕ) (floats : List Float) (l : Laid s p ints floats) where
  abbrev record_fits : Bool
  record_fits = sizes_fit s

  abbrev ints_fit : Bool
  ints_fit = leb (used_ints s.basis s) (length ints)

  abbrev floats_fit : Bool
  floats_fit = leb (used_floats s) (length floats)

  abbrev groups_fit : Bool
  groups_fit = all (λ g. ltb g s.groups) (ids_in s ints)

  whole : (record_fits && ints_fit && floats_fit && groups_fit && transfer_fits s.basis s ints) ≡ true
  unfolding setup_fits sizes_fit
  whole = l.fits

  lists : ((record_fits && ints_fit && floats_fit) ≡ true) × (groups_fit ≡ true) × (transfer_fits s.basis s ints ≡ true)
  lists = three_true (record_fits && ints_fit && floats_fit) groups_fit (transfer_fits s.basis s ints) whole

  lengths : (record_fits ≡ true) × (ints_fit ≡ true) × (floats_fit ≡ true)
  lengths = three_true record_fits ints_fit floats_fit lists.0

  pub bounds : Bounds s
  bounds = bounds_of s lengths.0

  pub sized : Sized s
  sized = sized_of s lengths.0

  ints_room : used_ints s.basis s ≤ length ints
  ints_room = leb-true _ _ lengths.1

  pub floats_room : used_floats s ≤ length floats
  floats_room = leb-true _ _ lengths.2

  pub room : Room p (length ints) (length floats)
  unfolding used_floats
  room =
      let k = at s p l.places in
      record { pointers = omega (arith, k.pointers, ids_room s.basis s (length ints) ints_room); weights = omega (arith, k.weights, k.coarse); coarse = omega (arith, k.coarse, k.floats); floats = omega (arith, k.floats, floats_room) }

  pub ids_long : length (take p.pointers ints) ≡ p.pointers
  ids_long = length-take-le p.pointers ints room.pointers

  pub factors_long : length (take p.weights floats) ≡ p.weights
  factors_long = length-take-le p.weights floats (omega (arith, room))

  pub grouped : Grouped s.block (take p.pointers ints) s.rows s.coarse
  grouped =
      let nodes : s.nodes ≡ p.pointers = sym (at s p l.places).pointers in
      let all_below : Below s.groups (take p.pointers ints) = rw nodes at (below s.groups (ids_in s ints) lists.1) in
      record {
        some = sized.some;
        rows = sized.nodes ∙ rw (ids_long, nodes);
        within = λ k h. rw sized.groups (omega (arith, mul-le-mul_right s.block (all_below k h)));
      }

  module _ (smoothed : s.basis ≡ JacobiSmoothed) where
    used : used_ints s.basis s ≡ s.nodes + s.rows + 1 + s.transfers
    unfolding used_ints
    used = rw smoothed

    pub transfer_room : TransferRoom p (length ints)
    transfer_room =
        let k = at s p l.places in
        record { pointers = omega (arith, k.pointers, k.columns); columns = omega (arith, k.columns, k.ints, used); ints = omega (arith, k.ints, ints_room) }

    -- the transfer's columns end where the integers do
    pub columns_end : p.ints ≡ p.columns + s.transfers
    columns_end = let k = at s p l.places in omega (arith, k.columns, k.ints, used)

    tests : transfer_fits JacobiSmoothed s ints ≡ true
    unfolding transfer_fits
    tests = rw smoothed at lists.2

    weights_long : length (weights_in s floats) ≡ s.transfers
    unfolding used_floats
    weights_long = simp (length-take, length-drop) (omega (arith, floats_room))

    pub compressed : Compressed s.rows s.coarse (pointers_in s ints) (columns_in s ints) (length (weights_in s floats))
    unfolding transfer_fits
    compressed =
        rw weights_long
        (rows_fit (pointers_in s ints) (columns_in s ints) s.rows s.coarse s.transfers tests (simp (length-take, length-drop) (omega (arith, used, ints_room))) (simp (length-take, length-drop) (omega (arith, used, ints_room))))
