-- The rule of the table of start values.
use Rattle.std.specs.Prelude.{◌≡◌, ℕ, zero, suc, ◌+◌, ◌-◌, ◌*◌, ◌≤◌, ◌<◌, get_or}
use Rattle.std.proofs.Common.{sym, ap, ◌∙◌, subst, add-zero, suc-add, add-suc, le_of_suc-le-suc, not-suc-le-zero, arith}
use Rattle.definitions.specs.Root.{isqrt}
use Rattle.laws.specs.WholeRoot.{IsRoot}
use Rattle.laws.proofs.RootSquares.{isqrt_root}
use Rattle.root.specs.Starts.{whole_roots}

roots_at : (n k i : ℕ) → i < n → get_or (whole_roots n k) i 0 ≡ isqrt (65536 * (k + i))
unfolding whole_roots
roots_at zero k i h = absurd (not-suc-le-zero h)
roots_at (suc n) k zero h = ap (λ (x : ℕ). isqrt (65536 * x)) (sym (add-zero k))
roots_at (suc n) k (suc i) h = roots_at n (suc k) i (le_of_suc-le-suc h) ∙ ap (λ (x : ℕ). isqrt (65536 * x)) (suc-add k i ∙ sym (add-suc k i))

-- THE RULE OF THE TABLE: for k from 64 to 255 the largest t with t * t <= 65,536 k
pub table_rule : (k : ℕ) → 64 ≤ k → k < 256 → IsRoot (65536 * k) (get_or (whole_roots 192 64) (k - 64) 0)
table_rule k a b =
    let e : 64 + (k - 64) ≡ k = omega arith in
    subst (λ (g : ℕ). IsRoot (65536 * k) g) (sym (roots_at 192 64 (k - 64) (omega arith) ∙ ap (λ (x : ℕ). isqrt (65536 * x)) e)) (isqrt_root (65536 * k))
