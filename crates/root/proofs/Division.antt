-- From the whole root s of a to that of a * 2 ^ 52: 26 more digits by one division of what is left over (a step of Zimmermann's), and what is then left over.
use mathlib.Core.Path.{◌≡◌, sym, ap, ◌∙◌, subst}
use Prim.Native.Nat.{ℕ, suc, ◌+◌, ◌-◌, ◌*◌, ◌/◌, ◌%◌, ◌^◌, ◌≤◌, ◌<◌}
use native.Mathlib.Nat.{lt_of_le_of_lt, mul-le-mul, div-lt_iff_lt-mul, div-add-mod', mod-lt, mul-mul-mul_comm, mul_right_comm, mul_comm, add-mul, mul-add, le_of_suc-le-suc}
use native.Mathlib.Omega.{arith}
use Rattle.laws.specs.WholeRoot.{IsRoot, Rest}
use Rattle.laws.proofs.RootSquares.{sq_lt, next}

-- ---- the numbers of `with_rest`: a - s² in place, the quotient, what the division leaves, and the candidate
abbrev pub num : ℕ → ℕ → ℕ
num a s = (a - s * s) * 33554432 % 18446744073709551616

abbrev pub quo : ℕ → ℕ → ℕ
quo a s = num a s / s

abbrev pub left : ℕ → ℕ → ℕ
left a s = num a s % s * 134217728 % 18446744073709551616

abbrev pub cand : ℕ → ℕ → ℕ
cand a s = s * 67108864 % 18446744073709551616 + quo a s

-- what is known of them: N is a * 2 ^ 52
pub record Parts (N s q u c : ℕ) : Type 0 where
  pub low : 2 ^ 26 ≤ s
  pub high : s < 2 ^ 27
  pub quo_le : q ≤ 2 ^ 26
  pub sq_le : q * q ≤ 2 ^ 52
  pub cand_is : c ≡ s * 67108864 + q
  pub left_lt : u < s * 134217728
  pub whole : N + q * q ≡ c * c + u

module _ {N s q u c : ℕ} (P : Parts N s q u c) where
  pub cand_pos : 2 ≤ c
  cand_pos = omega arith

  pub rest_pos : q * q ≤ u + (2 * c - 1)
  rest_pos = omega arith

  -- c is the root
  pub rest_at : q * q ≤ u → Rest N c (u - q * q)
  rest_at h = record { sum = omega arith; most = omega arith }

  -- c is one too many
  pub rest_before : u < q * q → Rest N (c - 1) (u + (2 * c - 1) - q * q)
  rest_before h = record { sum = omega (arith, next (c - 1), back, rest_pos, cand_pos); most = omega (arith, cand_pos, rest_pos) }
    where
      one : (y : ℕ) → 2 ≤ y → suc (y - 1) ≡ y
      one y g = omega arith

      back : suc (c - 1) * suc (c - 1) ≡ c * c
      back = ap (λ (y : ℕ). y * y) (one c cand_pos)

square : (s q b : ℕ) → (s * b + q) * (s * b + q) ≡ s * s * (b * b) + s * q * b + s * q * b + q * q
square s q b =
    let x : (s * b + q) * (s * b + q) ≡ s * b * (s * b) + q * (s * b) + (s * b * q + q * q) = simp (add-mul, mul-add) (omega arith) in
    let y = mul-mul-mul_comm s b s b in
    let z = mul_right_comm s b q in
    let w = mul_comm q (s * b) in
    omega arith

-- r is what a is above s², q and v come from the division
join : (a s r q v c : ℕ) → a ≡ s * s + r → q * s + v ≡ r * 33554432 → c ≡ s * 67108864 + q → a * 2 ^ 52 + q * q ≡ c * c + v * 134217728
join a s r q v c e f g =
    let x : c * c ≡ s * s * (67108864 * 67108864) + s * q * 67108864 + s * q * 67108864 + q * q = ap (λ (y : ℕ). y * y) g ∙ square s q 67108864 in
    let y = mul_comm q s in
    omega arith

pub parts : (a s : ℕ) → 2 ^ 52 ≤ a → a < 2 ^ 54 → IsRoot a s → Parts (a * 2 ^ 52) s (quo a s) (left a s) (cand a s)
parts a s A A' r =
    let h : s < 2 ^ 27 = sq_lt s (2 ^ 27) (lt_of_le_of_lt r.0 A') in
    let l : 2 ^ 26 < suc s = sq_lt (2 ^ 26) (suc s) (lt_of_le_of_lt A r.1) in
    let m : a - s * s ≤ 2 * s = omega (arith, next s, r.0, r.1) in
    let n : num a s ≡ (a - s * s) * 33554432 = omega arith in
    let d : 0 < s = omega arith in
    let v : num a s % s < s = mod-lt (num a s) d in
    let u : left a s ≡ num a s % s * 134217728 = omega arith in
    let q : quo a s ≤ 2 ^ 26 = le_of_suc-le-suc ((div-lt_iff_lt-mul d).1 (omega arith)) in
    let c : cand a s ≡ s * 67108864 + quo a s = omega arith in
    record {
      low = le_of_suc-le-suc l;
      high = h;
      quo_le = q;
      sq_le = mul-le-mul q q;
      cand_is = c;
      left_lt = omega arith;
      whole = subst (λ (x : ℕ). a * 2 ^ 52 + quo a s * quo a s ≡ cand a s * cand a s + x) (sym u)
          (join a s (a - s * s) (quo a s) (num a s % s) (cand a s) (omega (arith, r.0)) (div-add-mod' (num a s) s ∙ n) c);
    }
