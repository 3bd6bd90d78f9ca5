-- Bytes put one after another.
use mathlib.Core.Path.{◌≡◌, refl, ap, sym, ◌∙◌}
use mathlib.Core.Logic.{inl, inr}
use mathlib.Core.List.{List, [], ◌∷◌, ◌++◌, append-nil, append_assoc}
use Prim.Native.Nat.{ℕ, suc, ◌+◌, ◌/◌, ◌%◌, ◌≤◌, ◌<◌}
use native.Mathlib.Numerals.{add-one}
use native.Mathlib.Omega.{arith}
use lib.ListN.{length, get_or, set, take, length-append}
use lib.Seq.{sets, length-sets, set_out, take-suc, length-take-le}
use Rattle.std.proofs.lemmas.Bool.{cases_lt}
use Rattle.definitions.specs.Text.{decimal_in, decimal, line}
use Rattle.grouping_text.specs.Puts.{Puts, lines_from}

pub sets_out : (l : List ℕ) (i : ℕ) (vs : List ℕ) → length l ≤ i → sets l i vs ≡ l
sets_out l i [] h = refl
sets_out l i (x ∷ vs) h = ap (λ k. sets k (suc i) vs) (set_out l i x h) ∙ sets_out l (suc i) vs (omega arith)

sets_append : (l : List ℕ) (i : ℕ) (xs ys : List ℕ) → sets l i (xs ++ ys) ≡ sets (sets l i xs) (i + length xs) ys
sets_append l i [] ys = let e : i + 0 ≡ i = omega arith in rw e refl
sets_append l i (x ∷ xs) ys = let e : i + suc (length xs) ≡ suc i + length xs = omega arith in rw e (sets_append (set l i x) (suc i) xs ys)

pub puts_none : (l : List ℕ) (at : ℕ) → at ≤ length l → Puts l at [] l at
puts_none l at h = record { list = refl; end = omega arith }

module _ (l : List ℕ) (at : ℕ) (xs l₁ : List ℕ) (r₁ : ℕ) (p : Puts l at xs l₁ r₁) where
  pub puts_length : length l₁ ≡ length l
  puts_length = ap length p.list ∙ length-sets l at xs

  pub puts_within : r₁ ≤ length l₁
  puts_within = omega (arith, puts_length, p.end)

  pub puts_then : (ys l₂ : List ℕ) (r₂ : ℕ) → Puts l₁ r₁ ys l₂ r₂ → Puts l at (xs ++ ys) l₂ r₂
  puts_then ys l₂ r₂ q = record {
    list = elim (cases_lt (length l) (at + length xs)) [
      | inr e ↦
          let r : r₁ ≡ at + length xs = omega (arith, p.end, e) in
          q.list ∙ ap (λ k. sets l₁ k ys) r ∙ ap (λ k. sets k (at + length xs) ys) p.list ∙ sym (sets_append l at xs ys)
      | inl e ↦
          let r : length l₁ ≤ r₁ = omega (arith, p.end, puts_length, e) in
          q.list ∙ sets_out l₁ r₁ ys r ∙ p.list ∙ sym (sets_append l at xs ys ∙ sets_out (sets l at xs) (at + length xs) ys (omega (arith, length-sets l at xs, e)))
    ];
    end = omega (arith, p.end, q.end, puts_length, length-append xs ys);
  }

-- decimal digits, one further
pub decimal_none : (n : ℕ) → decimal_in 0 n ≡ []
unfolding decimal_in
decimal_none n = refl

pub decimal_one : (p n : ℕ) → n / 10 ≡ 0 → decimal_in (suc p) n ≡ (48 + n) ∷ []
unfolding decimal_in
decimal_one p n e = rw (decimal_in, e)

pub decimal_more : (p n k : ℕ) → n / 10 ≡ suc k → decimal_in (suc p) n ≡ decimal_in p (n / 10) ++ ((48 + n % 10) ∷ [])
unfolding decimal_in
decimal_more p n k e = rw (decimal_in, e)

-- four pieces make a line
pub puts_line : (l : List ℕ) (at : ℕ) (a b l₁ l₂ l₃ l₄ : List ℕ) (r₁ r₂ r₃ r₄ : ℕ) → Puts l at a l₁ r₁ → Puts l₁ r₁ (32 ∷ []) l₂ r₂ → Puts l₂ r₂ b l₃ r₃ → Puts l₃ r₃ (10 ∷ []) l₄ r₄ → Puts l at (line a b) l₄ r₄
unfolding line
puts_line l at a b l₁ l₂ l₃ l₄ r₁ r₂ r₃ r₄ p q r s =
    puts_then l at (a ++ (32 ∷ []) ++ b) l₃ r₃ (puts_then l at (a ++ (32 ∷ [])) l₂ r₂ (puts_then l at a l₁ r₁ p (32 ∷ []) l₂ r₂ q) b l₃ r₃ r) (10 ∷ []) l₄ r₄ s

pub puts_decimal : (l : List ℕ) (at n : ℕ) (l₁ : List ℕ) (r : ℕ) → Puts l at (decimal_in 20 n) l₁ r → Puts l at (decimal n) l₁ r
unfolding decimal
puts_decimal l at n l₁ r p = p

lines_snoc : (v : ℕ) (xs : List ℕ) (x : ℕ) → lines_from v (xs ++ (x ∷ [])) ≡ lines_from v xs ++ line (decimal (v + length xs)) (decimal x)
unfolding lines_from
lines_snoc v [] x = let e : v + 0 ≡ v = omega arith in rw e (append-nil (line (decimal v) (decimal x)))
lines_snoc v (y ∷ xs) x =
    let e : v + suc (length xs) ≡ suc v + length xs = omega arith in
    rw (e, lines_snoc (suc v) xs x) (sym (append_assoc (line (decimal v) (decimal y)) (lines_from (suc v) xs) (line (decimal (suc v + length xs)) (decimal x))))

lines_none : (v : ℕ) → lines_from v [] ≡ []
unfolding lines_from
lines_none v = refl

-- a byte more, and a line more
module _ (out₀ : List ℕ) (at : ℕ) (out : List ℕ) (end : ℕ) where
  pub copy_next : (bytes : List ℕ) (i : ℕ) → Puts out₀ at (take i bytes) out end → i < length bytes → (out' : List ℕ) (r : ℕ) → Puts out end (get_or bytes i 0 ∷ []) out' r → Puts out₀ at (take (i + 1) bytes) out' r
  copy_next bytes i p k out' r q = rw (add-one i, take-suc bytes i 0 k) (puts_then out₀ at (take i bytes) out end p (get_or bytes i 0 ∷ []) out' r q)

  pub list_next : (ids : List ℕ) (v : ℕ) → Puts out₀ at (lines_from 0 (take v ids)) out end → v < length ids → (out' : List ℕ) (r : ℕ) → Puts out end (line (decimal v) (decimal (get_or ids v 0))) out' r
      → Puts out₀ at (lines_from 0 (take (v + 1) ids)) out' r
  list_next ids v p k out' r q =
      let e : 0 + length (take v ids) ≡ v = omega (arith, length-take-le v ids (omega arith)) in
      let s : lines_from 0 (take (v + 1) ids) ≡ lines_from 0 (take v ids) ++ line (decimal v) (decimal (get_or ids v 0)) =
      ap (λ j. lines_from 0 (take j ids)) (add-one v) ∙ ap (lines_from 0) (take-suc ids v 0 k) ∙ lines_snoc 0 (take v ids) (get_or ids v 0) ∙ ap (λ j. lines_from 0 (take v ids) ++ line (decimal j) (decimal (get_or ids v 0))) e in
      rw s (puts_then out₀ at (lines_from 0 (take v ids)) out end p (line (decimal v) (decimal (get_or ids v 0))) out' r q)

pub list_first : (out₀ : List ℕ) (at : ℕ) → at ≤ length out₀ → Puts out₀ at (lines_from 0 []) out₀ at
list_first out₀ at h = rw (lines_none 0) (puts_none out₀ at h)
