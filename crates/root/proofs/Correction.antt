-- Why one correction is enough. By the right table the search starts below the whole root r by less than 2^20; Newton's first step s is
-- then less than 128 below r and at most 2^13 above r + 1; and a step from an s that near ends at r or r + 1.
use mathlib.Core.Path.{◌≡◌, sym, ap, ◌∙◌, subst}
use mathlib.Core.Bool.{Bool, true, false, not}
use Prim.Native.Nat.{ℕ, suc, ◌+◌, ◌-◌, ◌*◌, ◌/◌, ◌%◌, ◌^◌, ◌≤◌, ◌<◌}
use native.Mathlib.Nat.{le_trans, le_of_eq, lt_of_lt_of_le, lt_of_le_of_lt, lt_of_not-le, le_of_suc-le-suc, mul-le-mul, mul-le-mul_left, mul-le-mul_right, mul_comm, mul-add, add-mul, mul-mul-mul_comm, div-lt_iff_lt-mul, div-mul-le_self, lt-mul-div-succ}
use native.Mathlib.Omega.{arith}
use lib.Dec.{T, leb, leb→le, nleb→lt, lit<}
use lib.ListN.{get_or}
use Rattle.laws.specs.WholeRoot.{IsRoot}
use Rattle.laws.proofs.RootSquares.{sq_lt, next}
use Rattle.root.specs.Starts.{whole_roots, start_of}
use Rattle.root.proofs.StartRule.{table_rule}
use Rattle.root.proofs.Bounds.{placed, near, quotient_lt}

-- ---- two numbers and their mean

mean : (y d : ℕ) → (y + d + d) * y + d * d ≡ (y + d) * (y + d)
mean y d = let c = mul_comm d y in simp (add-mul, mul-add) (omega arith)

-- no product is above the square of the mean
product : (x y r : ℕ) → x + y ≤ r + r → x * y ≤ r * r
product x y r h = go (leb y r) (leb→le y r) (nleb→lt y r)
  where
    lower : (v w : ℕ) → v ≤ r → w + v ≤ r + r → w * v ≤ r * r
    lower v w l g =
        let d = r - v in
        let e : v + d ≡ r = omega arith in
        le_trans (mul-le-mul_right v (omega arith)) (subst (λ (z : ℕ). (v + d + d) * v ≤ z * z) e (omega (arith, mean v d)))

    go : (b : Bool) → (T b → y ≤ r) → (T (not b) → r < y) → x * y ≤ r * r
    go true p q = lower y x (p tt) h
    go false p q = let l = q tt in le_trans (le_of_eq (mul_comm x y)) (lower x y (omega arith) (omega arith))

-- ---- one of Newton's steps, rounded down, from any s is not below the root, and from a near s at most one above it

step_least : (a r s : ℕ) → 0 < s → r * r ≤ a → r ≤ (s + a / s) / 2
step_least a r s S h = le_of_suc-le-suc (lt_of_not-le (λ (g : suc ((s + a / s) / 2) ≤ r). no g))
  where
    no : suc ((s + a / s) / 2) ≤ r → ⊥
    no g =
        let p : s * (a / s + 1) ≤ r * r = product s (a / s + 1) r (omega arith) in
        let l = lt-mul-div-succ a S in
        omega arith

-- y and y + 2 d lie about r + 2, and their product is above a
around : (a r y d : ℕ) → a < suc r * suc r → d * d ≤ r → y + d ≡ suc (suc r) → a < (y + d + d) * y
around a r y d h g e =
    let m = mean y d in
    let n = next (suc r) in
    let f : (y + d) * (y + d) ≡ suc (suc r) * suc (suc r) = ap (λ (z : ℕ). z * z) e in
    omega arith

step_most : (a r s : ℕ) → 0 < s → a < suc r * suc r → 2 ^ 26 ≤ r → r < s + 2 ^ 12 → s ≤ suc r + 2 ^ 13 → (s + a / s) / 2 ≤ suc r
step_most a r s S h R lo hi = go (leb s (suc (suc r))) (leb→le s (suc (suc r))) (nleb→lt s (suc (suc r)))
  where
    small : (d : ℕ) → d ≤ 2 ^ 13 → d * d ≤ r
    small d l = le_trans (mul-le-mul l l) R

    go : (b : Bool) → (T b → s ≤ suc (suc r)) → (T (not b) → suc (suc r) < s) → (s + a / s) / 2 ≤ suc r
    go true p q =
        let l = p tt in
        let d = suc (suc r) - s in
        let k = (div-lt_iff_lt-mul S).1 (around a r s d h (small d (omega arith)) (omega arith)) in
        omega arith
    go false p q =
        let l = q tt in
        let d = s - suc (suc r) in
        let y = suc (suc r) - d in
        let e : y + d + d ≡ s = omega arith in
        let k = (div-lt_iff_lt-mul S).1 (lt_of_lt_of_le (around a r y d h (small d (omega arith)) (omega arith)) (le_of_eq (ap (λ (z : ℕ). z * y) e ∙ mul_comm s y))) in
        omega arith

-- ---- the start, and the first step from it

-- u = t * 2 ^ 15 is at most r, and less than 2 ^ 20 below it
pub record Started (t r : ℕ) : Type 0 where
  pub least : 2 ^ 11 ≤ t
  pub most : t < 2 ^ 12
  pub under : t * 32768 ≤ r
  pub close : r < t * 32768 + 2 ^ 20

started : (a t r : ℕ) → 2 ^ 52 ≤ a → a < 2 ^ 54 → IsRoot (65536 * (a / 2 ^ 46)) t → IsRoot a r → Started t r
started a t r A B I J =
    let k = a / 2 ^ 46 in
    let l : 2 ^ 11 < suc t = sq_lt (2 ^ 11) (suc t) (lt_of_le_of_lt (omega arith) I.1) in
    let m : t < 2 ^ 12 = sq_lt t (2 ^ 12) (lt_of_le_of_lt I.0 (omega arith)) in
    let u : t * 32768 < suc r = sq_lt (t * 32768) (suc r) (lt_of_le_of_lt (omega (arith, mul-mul-mul_comm t 32768 t 32768, I.0)) J.1) in
    let v : r < t * 32768 + 2 ^ 20 = sq_lt r (t * 32768 + 2 ^ 20) (lt_of_le_of_lt J.0 (omega (arith, wide t, next t, I.1, l))) in
    record { least = le_of_suc-le-suc l; most = m; under = le_of_suc-le-suc u; close = v }
  where
    wide : (x : ℕ) → (x * 32768 + 2 ^ 20) * (x * 32768 + 2 ^ 20) ≡ (x * x + 64 * x + 1024) * 2 ^ 30
    wide x = let c = mul-mul-mul_comm x 32768 x 32768 in simp (add-mul, mul-add) (omega arith)

-- the first step without its places in the machine's words: half the sum of u = t * 2 ^ 15 and v = q * 2 ^ 8
module _ (a t r q : ℕ) (S : Started t r) (J : IsRoot a r) where
  abbrev stepped : ℕ
  stepped = (t * 128 + q) * 128

  stepped_least : a / 8388608 < suc q * t → r < stepped + 2 ^ 7
  stepped_least h =
      let g : a < suc q * t * 8388608 = (div-lt_iff_lt-mul {k = 8388608} (lit< tt)).0 h in
      let p : t * 32768 * (suc q * 256) ≤ (stepped + 2 ^ 7) * (stepped + 2 ^ 7) = product (t * 32768) (suc q * 256) (stepped + 2 ^ 7) (omega arith) in
      sq_lt r (stepped + 2 ^ 7) (lt_of_le_of_lt J.0 (lt_of_lt_of_le g (omega (arith, p, mul-mul-mul_comm t 32768 (suc q) 256, mul_comm t (suc q)))))

  stepped_most : q * t ≤ a / 8388608 → stepped ≤ suc r + 2 ^ 13
  stepped_most h = le_of_suc-le-suc (lt_of_not-le (λ (g : suc (suc r + 2 ^ 13) ≤ stepped). no g))
    where
      -- with r + 1 = u + e: u v is at most a, and (u + e)² above it
      far : (u e v : ℕ) → 2 ^ 26 ≤ u → e ≤ 2 ^ 20 → u + e + e + 2 ^ 14 ≤ v → u * v < (u + e) * (u + e) → ⊥
      far u e v U E g l =
          let m : u * (u + e + e + 2 ^ 14) ≤ u * v = mul-le-mul_left u g in
          let x : u * (u + e + e + 2 ^ 14) ≡ u * u + u * e + u * e + u * 2 ^ 14 = simp (mul-add) (omega arith) in
          let y : (u + e) * (u + e) ≡ u * u + u * e + u * e + e * e = let c = mul_comm e u in simp (add-mul, mul-add) (omega arith) in
          let z : e * e ≤ 2 ^ 20 * 2 ^ 20 = mul-le-mul E E in
          omega arith

      no : suc (suc r + 2 ^ 13) ≤ stepped → ⊥
      no g =
          let u = t * 32768 in
          let e = suc r - u in
          let l = S.least in
          let c = S.close in
          let b = S.under in
          let i : u + e ≡ suc r = omega arith in
          let p : u * (q * 256) ≤ a = omega (arith, mul-mul-mul_comm t 32768 q 256, mul_comm t q, h) in
          far u e (q * 256) (omega arith) (omega arith) (omega arith) (subst (λ (z : ℕ). u * (q * 256) < z * z) (sym i) (lt_of_le_of_lt p J.1))

-- ---- both steps, by the table

-- the code's first step has no digit cut off
placed_is : (a t : ℕ) → a < 2 ^ 54 → 2 ^ 11 ≤ t → t < 2 ^ 12 → placed a t ≡ (t * 128 + a / 8388608 / t) * 128
placed_is a t A l m = let q = quotient_lt a t A l in omega arith

by_root : (a t r : ℕ) → 2 ^ 52 ≤ a → a < 2 ^ 54 → IsRoot (65536 * (a / 2 ^ 46)) t → IsRoot a r → (r ≤ near a t) × (near a t ≤ suc r)
by_root a t r A B I J =
    let S = started a t r A B I J in
    let q = a / 8388608 / t in
    let T' : 0 < t = omega (arith, S.least) in
    let e = placed_is a t B S.least S.most in
    let lo : r < (t * 128 + q) * 128 + 2 ^ 7 = stepped_least a t r q S J ((div-lt_iff_lt-mul T').0 (omega arith)) in
    let hi : (t * 128 + q) * 128 ≤ suc r + 2 ^ 13 = stepped_most a t r q S J (div-mul-le_self (a / 8388608) t) in
    let R : 2 ^ 26 < suc r = sq_lt (2 ^ 26) (suc r) (lt_of_le_of_lt A J.1) in
    let p : 0 < placed a t = omega (arith, S.least, e) in
    (step_least a r (placed a t) p J.0, step_most a r (placed a t) p J.1 (le_of_suc-le-suc R) (omega arith) (omega arith))

-- ONE CORRECTION IS ENOUGH: by the right table `newton` comes to the whole root of a or to one more
pub one_correction : (a r : ℕ) → 2 ^ 52 ≤ a → a < 2 ^ 54 → IsRoot a r
    → (r ≤ near a (start_of (whole_roots 192 64) (a / 2 ^ 46))) × (near a (start_of (whole_roots 192 64) (a / 2 ^ 46)) ≤ suc r)
one_correction a r A B J =
    let k = a / 2 ^ 46 in
    let t = get_or (whole_roots 192 64) (k - 64) 0 in
    let I : IsRoot (65536 * k) t = table_rule k (omega arith) (omega arith) in
    let S = started a t r A B I J in
    let e : t ≡ t % 2048 + 2048 = omega (arith, S.least, S.most) in
    subst (λ (x : ℕ). (r ≤ near a x) × (near a x ≤ suc r)) e (by_root a t r A B I J)
