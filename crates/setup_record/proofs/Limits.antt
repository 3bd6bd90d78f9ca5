-- What the tests of a record's numbers say of them.
use Prim.Native.Nat.{ℕ, zero, suc, ◌+◌, ◌*◌, ◌≤◌}
use native.Mathlib.Omega.{arith}
use native.Mathlib.Nat.{mul-suc, mul-le-mul}
use mathlib.Core.Path.{◌≡◌}
use mathlib.Core.Bool.{true}
use borrow.Author.Tests.{leb-true, eqb-true}
use Rattle.definitions.specs.Places.{used_ints, places_of}
use Rattle.definitions.specs.Fits.{within_limits, is_resolved, transfers_fit}
use Rattle.definitions.specs.declared.Setup.{Setup}
use Rattle.definitions.specs.declared.Places.{Places}
use Rattle.definitions.specs.declared.TwoLevelBasis.{TwoLevelBasis}
use Rattle.definitions.specs.declared.TwoLevelBasis.TheVariants.{PiecewiseConstant, JacobiSmoothed}
use Rattle.layout.proofs.Sizes.{at}
use Rattle.laws.proofs.Tests.{both_true}
use Rattle.setup_record.specs.Sizes.{sizes_fit}

pub record Limits (s : Setup) : Type 0 where
  pub rows : s.rows ≤ 1048576
  pub entries : s.entries ≤ 16777216
  pub block : s.block ≤ 8
  pub group : s.group ≤ 1048576
  pub coarse : s.coarse ≤ 2048

pub limits_of : (s : Setup) → within_limits s ≡ true → Limits s
unfolding within_limits
limits_of s e =
    let p = both_true _ _ e in
    let q = both_true _ _ p.0 in
    let r = both_true _ _ q.0 in
    let t = both_true _ _ r.0 in
    record { rows = leb-true _ _ t.0; entries = leb-true _ _ t.1; block = leb-true _ _ r.1; group = leb-true _ _ q.1; coarse = leb-true _ _ p.1 }

-- a record whose sizes fit
pub record Sized (s : Setup) : Type 0 where
  pub limits : Limits s
  pub some : 1 ≤ s.block
  pub resolved : is_resolved s.policy ≡ true
  pub transfers : transfers_fit s.basis s ≡ true
  pub nodes : s.rows ≡ s.nodes * s.block
  pub groups : s.coarse ≡ s.groups * s.block

pub sized_of : (s : Setup) → sizes_fit s ≡ true → Sized s
unfolding sizes_fit
sized_of s e =
    let p = both_true _ _ e in
    let q = both_true _ _ p.0 in
    let r = both_true _ _ q.0 in
    let u = both_true _ _ r.0 in
    let t = both_true _ _ u.0 in
    record { limits = limits_of s t.0; some = leb-true _ _ t.1; resolved = u.1; transfers = r.1; nodes = eqb-true _ _ q.1; groups = eqb-true _ _ p.1 }

-- how large the numbers of such a record can be
pub record Bounds (s : Setup) : Type 0 where
  pub rows : s.rows ≤ 1048576
  pub nodes : s.nodes ≤ s.rows
  pub transfers : s.transfers ≤ 17825792
  pub coarse : s.coarse ≤ 2048
  pub groups : s.groups ≤ s.coarse
  pub factors : s.rows * s.block ≤ 8388608

few : (b : TwoLevelBasis) (s : Setup) → Limits s → transfers_fit b s ≡ true → s.transfers ≤ 17825792
unfolding transfers_fit
few PiecewiseConstant s l e = let z : s.transfers ≡ 0 = eqb-true _ _ e in omega arith
few JacobiSmoothed s l e = let z : s.transfers ≤ s.rows + s.entries = leb-true _ _ e in omega (arith, l.rows, l.entries)

one_of : (p n b : ℕ) → 1 ≤ b → p ≡ n * b → n ≤ p
one_of p n zero h e = absurd (omega arith)
one_of p n (suc b) h e = let f : n * suc b ≡ n * b + n = mul-suc n b in omega arith

pub bounds_of : (s : Setup) → sizes_fit s ≡ true → Bounds s
bounds_of s e =
    let z = sized_of s e in
    record {
      rows = z.limits.rows;
      nodes = one_of s.rows s.nodes s.block z.some z.nodes;
      transfers = few s.basis s z.limits z.transfers;
      coarse = z.limits.coarse;
      groups = one_of s.coarse s.groups s.block z.some z.groups;
      factors = mul-le-mul z.limits.rows z.limits.block;
    }

-- the room that the used integers take
pub smoothed_room : (b : TwoLevelBasis) (s : Setup) (n : ℕ) → b ≡ JacobiSmoothed → used_ints b s ≤ n → s.nodes + s.rows + 1 + s.transfers ≤ n
unfolding used_ints
smoothed_room b s n e h = rw e at h

pub ids_room : (b : TwoLevelBasis) (s : Setup) (n : ℕ) → used_ints b s ≤ n → s.nodes ≤ n
unfolding used_ints
ids_room PiecewiseConstant s n h = h
ids_room JacobiSmoothed s n h = omega arith

-- the transfer's parts, of a smoothed basis: within a list of n
pub record Rowed (s : Setup) (p : Places) (n : ℕ) : Type 0 where
  pub rows : s.rows ≤ 1048576
  pub transfers : s.transfers ≤ 17825792
  pub pointers : p.pointers + s.rows + 1 ≡ p.columns
  pub columns : p.columns ≤ 2097153
  pub room : p.columns + s.transfers ≤ n

pub rowed_of : (b : TwoLevelBasis) (s : Setup) (p : Places) (n : ℕ) → sizes_fit s ≡ true → p ≡ places_of s → b ≡ JacobiSmoothed → used_ints b s ≤ n → Rowed s p n
rowed_of b s p n e f g h =
    let k = bounds_of s e in
    let a = at s p f in
    record { rows = k.rows; transfers = k.transfers; pointers = omega (arith, a.pointers, a.columns); columns = omega (arith, k.rows, k.nodes, a.columns); room = omega (arith, a.columns, smoothed_room b s n g h) }
