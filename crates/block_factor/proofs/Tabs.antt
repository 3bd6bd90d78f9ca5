-- Lists by index, one element more.
use Prim.Native.Nat.{ℕ, suc, ◌+◌, ◌<◌}
use mathlib.Core.Path.{◌≡◌, ap, sym, ◌∙◌}
use mathlib.Core.Bool.{Bool, true, false}
use mathlib.Core.List.{◌∷◌}
use native.Mathlib.Numerals.{add-one}
use lib.ListN.{drop}
use lib.Seq.{drop-cons, drop-length}
use Rattle.definitions.specs.Lists.{tab, up_to, any}
use Rattle.laws.proofs.Lists.{length_tab, get_d_tab}

-- ---- a test over 0, 1, .., n - 1, by what is left of it

module _ (p : ℕ → Bool) (n i : ℕ) (h : i < n) where
  left_cons : drop i (up_to n) ≡ i ∷ drop (suc i) (up_to n)
  unfolding up_to
  left_cons = drop-cons (tab (λ k. k) n) i 0 (rw (length_tab (λ k. k) n) h) ∙ ap (λ k. k ∷ drop (suc i) (tab (λ k. k) n)) (get_d_tab (λ k. k) n i 0 h)

  pub up_to_found : p i ≡ true → any p (drop i (up_to n)) ≡ true
  unfolding any
  up_to_found e = rw (left_cons, e)

  pub up_to_passed : p i ≡ false → any p (drop i (up_to n)) ≡ any p (drop (i + 1) (up_to n))
  unfolding any
  up_to_passed e = rw (left_cons, e, add-one)

pub up_to_end : (p : ℕ → Bool) (n i : ℕ) → i ≡ n → any p (drop i (up_to n)) ≡ false
unfolding any up_to
up_to_end p n i h = ap (λ k. any p (drop k (tab (λ k. k) n))) (h ∙ sym (length_tab (λ k. k) n)) ∙ ap (any p) (drop-length (tab (λ k. k) n))
