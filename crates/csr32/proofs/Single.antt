-- The entries at one column counted: as long as there is but one, its position is known.
use mathlib.Core.Path.{◌≡◌, refl, ap, ◌∙◌}
use mathlib.Core.Bool.{Bool, true, false}
use mathlib.Core.List.{List, [], ◌∷◌}
use Prim.Native.Nat.{ℕ, ◌+◌, ◌<◌, ◌≤◌}
use native.Mathlib.Omega.{arith}
use lib.Bits.{bit_or}
use lib.ListN.{length, get_or}
use lib.Ieee.{Float, nan}
use Rattle.definitions.specs.Numbers.{◌+ᶠ◌, zeroᶠ, total}
use Rattle.csr32.proofs.Stored.{numbers_at, numbers_none, numbers_hit, numbers_miss, stored_all}
use Rattle.csr32.specs.Found.{sum_found}
use Rattle.csr32.specs.Parts.{entries}
use Rattle.std.specs.Prelude.{Some}
use Rattle.definitions.specs.Matrix.{values_where}

pub record Single (p : ℕ → Bool) (idx : List ℕ) (vals : List Float) (a k count at : ℕ) : Type 0 where
  pub few : a + count ≤ k
  pub none : count ≡ 0 → (at ≡ 0) × (numbers_at p idx vals a k ≡ [])
  pub one : count ≡ 1 → (at < k) × (numbers_at p idx vals a k ≡ get_or vals at nan ∷ [])

module _ (p : ℕ → Bool) (idx : List ℕ) (vals : List Float) (a : ℕ) where
  pub single_none : Single p idx vals a a 0 0
  single_none = record { few = omega arith; none = λ e. (refl, numbers_none p idx vals a); one = λ e. absurd (omega arith) }

  -- one entry more
  module _ (k : ℕ) (h : a ≤ k) (l : k < length idx) (same : length idx ≡ length vals) (count at : ℕ) (s : Single p idx vals a k count at) where
    pub single_hit : (count' at' : ℕ) → p (get_or idx k 0) ≡ true → count' ≡ count + 1 → at' ≡ bit_or at k → Single p idx vals a (k + 1) count' at'
    single_hit count' at' e f g = record {
      few = omega (arith, s.few);
      none = λ z. absurd (omega arith);
      one = λ z.
          let n = s.none (omega arith) in
          let q : at' ≡ k = g ∙ ap (λ t. bit_or t k) n.0 in
          (omega arith, numbers_hit p idx vals a k h l same e ∙ rw (n.1, q));
    }

    pub single_miss : (count' at' : ℕ) → p (get_or idx k 0) ≡ false → count' ≡ count → at' ≡ at → Single p idx vals a (k + 1) count' at'
    single_miss count' at' e f g =
        rw (f, g)
        (record {
          few = omega (arith, s.few);
          none = λ z. ((s.none z).0, numbers_miss p idx vals a k h l same e ∙ (s.none z).1);
          one = λ z. (omega (arith, s.one z), numbers_miss p idx vals a k h l same e ∙ (s.one z).1);
        })

-- the sum of a single number
alone : (xs : List Float) (v : Float) → xs ≡ v ∷ [] → Some (zeroᶠ +ᶠ v) ≡ sum_found xs
unfolding sum_found total
alone xs v e = rw e

pub single_found : (p : ℕ → Bool) (idx : List ℕ) (vals : List Float) (n count at : ℕ) → n ≡ length idx → length idx ≡ length vals → count ≡ 1 → Single p idx vals 0 n count at
    → Some (zeroᶠ +ᶠ get_or vals at nan) ≡ sum_found (values_where p (entries idx vals))
single_found p idx vals n count at e same one s =
    alone (numbers_at p idx vals 0 n) (get_or vals at nan) (s.one one).1 ∙ ap (λ l. sum_found (values_where p l)) (stored_all idx vals n e same)
