-- The sum at one column, an entry more, and the diagonal row by row.
use mathlib.Core.Path.{◌≡◌, refl, ap, sym, ◌∙◌}
use mathlib.Core.Bool.{Bool, true, false}
use mathlib.Core.List.{List, [], ◌∷◌, ◌++◌, foldl-append}
use Prim.Native.Nat.{ℕ, ◌+◌, ◌<◌}
use native.Mathlib.Omega.{arith}
use lib.ListN.{length, get_or}
use lib.Ieee.{Float, nan}
use Rattle.std.specs.Prelude.{Option, Some, None}
use Rattle.std.specs.Option.{unwrap_or}
use Rattle.definitions.specs.Numbers.{◌+ᶠ◌, zeroᶠ, total}
use Rattle.definitions.specs.Matrix.{values_where}
use Rattle.csr32.specs.Found.{some, sum_found}
use Rattle.csr32.specs.Parts.{entries}
use Rattle.csr32.proofs.Stored.{numbers_at, numbers_none, numbers_hit, numbers_miss, stored_all}

found_more : (xs : List Float) (v : Float) → Some (unwrap_or (sum_found xs) zeroᶠ +ᶠ v) ≡ sum_found (xs ++ (v ∷ []))
unfolding sum_found total
found_more [] v = refl
found_more (x ∷ xs) v = ap Some (sym (foldl-append (λ s x. s +ᶠ x) zeroᶠ (x ∷ xs) (v ∷ [])))

module _ (p : ℕ → Bool) (idx : List ℕ) (vals : List Float) where
  pub sums_none : None ≡ sum_found (numbers_at p idx vals 0 0)
  unfolding sum_found
  sums_none = rw (numbers_none p idx vals 0)

  -- one entry more
  module _ (n m : ℕ) (c : ℕ) (em : m ≡ n + 1) (h : n < length idx) (l : n < length vals) (ec : c ≡ get_or idx n 0) where
    pub sums_hit : (v : Float) (s : Option Float) (r : Float) → v ≡ get_or vals n nan → length idx ≡ length vals → p c ≡ true → s ≡ sum_found (numbers_at p idx vals 0 n) → r ≡ unwrap_or s zeroᶠ
        → Some (r +ᶠ v) ≡ sum_found (numbers_at p idx vals 0 m)
    sums_hit v s r ev same e es er =
        rw (er, es, ev) (found_more (numbers_at p idx vals 0 n) (get_or vals n nan))
        ∙ ap sum_found (sym (numbers_hit p idx vals 0 n (omega arith) h same (rw ec at e))) ∙ ap (λ k. sum_found (numbers_at p idx vals 0 k)) (sym em)

    pub sums_miss : (s : Option Float) → length idx ≡ length vals → p c ≡ false → s ≡ sum_found (numbers_at p idx vals 0 n) → s ≡ sum_found (numbers_at p idx vals 0 m)
    sums_miss s same e es = es ∙ ap sum_found (sym (numbers_miss p idx vals 0 n (omega arith) h same (rw ec at e))) ∙ ap (λ k. sum_found (numbers_at p idx vals 0 k)) (sym em)

  pub sums_all : (n : ℕ) (s : Option Float) → n ≡ length idx → length idx ≡ length vals → s ≡ sum_found (numbers_at p idx vals 0 n) → s ≡ sum_found (values_where p (entries idx vals))
  sums_all n s e same es = es ∙ ap (λ l. sum_found (values_where p l)) (stored_all idx vals n e same)

pub found_some : (xs : List Float) (s : Float) → Some s ≡ sum_found xs → (true ≡ some xs) × (s ≡ total xs)
unfolding some sum_found
found_some [] s e = cc
found_some (x ∷ xs) s e = (refl, cc)

pub found_none : (xs : List Float) → None ≡ sum_found xs → false ≡ some xs
unfolding some sum_found
found_none [] e = refl
found_none (x ∷ xs) e = cc
