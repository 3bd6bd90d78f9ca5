-- Parts of a list, lent and put back, where zeros stand behind them.
use mathlib.Core.Path.{◌≡◌, refl, ap, sym, ◌∙◌, subst}
use mathlib.Core.List.{List, [], ◌∷◌, ◌++◌, append-nil, append_assoc}
use Prim.Native.Nat.{ℕ, zero, suc, ◌+◌, ◌-◌, ◌≤◌, ◌<◌}
use native.Mathlib.Omega.{arith}
use lib.ListN.{length, take, drop, replicate, length-append, take-append-drop, replicate-append-replicate}
use lib.Seq.{take_at, drop_at, length-take-le}
use borrow.Rule.Slice.PartMut.{put_mid, Post-is, mid_len}
use Rattle.definitions.specs.Lists.{padded, between}
use Rattle.two_level_grouping.proofs.Kept.{drop_replicate}
use Rattle.two_level_setup.proofs.Padding.{padded_join, padded_past, padded_more, padded_less, padded_fits}

module _ {A : Type 0} (z : A) where
  pub padded_full : (n : ℕ) (xs : List A) → length xs ≡ n → padded z n xs ≡ xs
  unfolding padded
  padded_full n xs l = let e : n - length xs ≡ 0 = omega arith in rw e (append-nil xs)

  -- a zero more changes nothing where zeros stand
  pub padded_zero : (n : ℕ) (xs : List A) → length xs < n → padded z n (xs ++ (z ∷ [])) ≡ padded z n xs
  unfolding padded
  padded_zero n xs h =
      append_assoc xs (z ∷ []) (replicate (n - length (xs ++ (z ∷ []))) z) ∙ ap (λ m. xs ++ replicate m z) (let l = length-append xs (z ∷ []) in let e : suc (n - length (xs ++ (z ∷ []))) ≡ n - length xs = omega (arith, l) in e)

  -- put over the zeros behind a front
  pub put_behind : (a e : ℕ) (s p d : List A) → s ≡ padded z (length s) p → length p ≡ a → length d ≡ e - a → put_mid a (e - a) s d ≡ padded z (length s) (p ++ d)
  unfolding padded
  put_behind a e s p d es l ld =
      let f : take a s ≡ p = ap (λ x. take a x) es ∙ take_at p (replicate (length s - length p) z) a l in
      let b : drop a s ≡ replicate (length s - a) z = ap (λ x. drop a x) es ∙ drop_at p (replicate (length s - length p) z) a l ∙ ap (λ m. replicate (length s - m) z) l in
      let c : drop (e - a) (drop a s) ≡ replicate (length s - a - length d) z
      = ap (λ x. drop (e - a) x) b ∙ drop_replicate z (e - a) (length s - a) ∙ ap (λ m. replicate (length s - a - m) z) (sym ld) in
      rw (f, c) (padded_join z (length s) a p d l)

  -- a front that holds a list, of a list of zeros
  pub put_padded : (k : ℕ) (s y xs : List A) → s ≡ replicate (length s) z → k ≤ length s → length xs ≤ k → y ≡ padded z (length (take k s)) xs → y ++ drop k s ≡ padded z (length s) xs
  unfolding padded
  put_padded k s y xs es h l ey =
      let f : y ≡ xs ++ replicate (k - length xs) z = ey ∙ ap (λ m. xs ++ replicate (m - length xs) z) (length-take-le k s h) in
      let b : drop k s ≡ replicate (length s - k) z = ap (λ x. drop k x) es ∙ drop_replicate z k (length s) in
      ap (λ t. t ++ drop k s) f ∙ append_assoc xs (replicate (k - length xs) z) (drop k s)
      ∙ ap (λ t. xs ++ t) (ap (λ t. replicate (k - length xs) z ++ t) b ∙ replicate-append-replicate (k - length xs) (length s - k) z ∙ ap (λ m. replicate m z) (over (length s) k (length xs) h l))
    where
      over : (n k x : ℕ) → k ≤ n → x ≤ k → k - x + (n - k) ≡ n - x
      over n k x p q = omega arith

  -- a part that is cleared, with zeros behind it
  pub tail_cleared : (a e : ℕ) (s zeros : List A) → a ≤ e → e ≤ length s → zeros ≡ replicate (length (between a e s)) z → drop e s ≡ replicate (length s - e) z → drop a (put_mid a (e - a) s zeros) ≡ replicate (length s - a) z
  tail_cleared a e s zeros h l ez er =
      let y : zeros ≡ replicate (e - a) z = ez ∙ ap (λ m. replicate m z) (mid_len a e s l) in
      drop_at (take a s) (zeros ++ drop (e - a) (drop a s)) a (length-take-le a s (omega arith))
      ∙ ap (λ t. t ++ drop (e - a) (drop a s)) y ∙ ap (λ t. replicate (e - a) z ++ t) (Post-is a e s h ∙ er)
      ∙ replicate-append-replicate (e - a) (length s - e) z ∙ ap (λ m. replicate m z) (gap a e (length s) h l)
    where
      gap : (x y n : ℕ) → x ≤ y → y ≤ n → y - x + (n - y) ≡ n - x
      gap x y n p q = omega arith

  -- what was put reads back
  pub put_read : (a e : ℕ) (s d : List A) → a ≤ length s → length d ≡ e - a → between a e (put_mid a (e - a) s d) ≡ d
  put_read a e s d h l =
      ap (λ x. take (e - a) x) (drop_at (take a s) (d ++ drop (e - a) (drop a s)) a (length-take-le a s h)) ∙ take_at d (drop (e - a) (drop a s)) (e - a) l

  -- ---- the front of a list of zeros

  take_replicate : (k n : ℕ) → take k (replicate n z) ≡ replicate (length (take k (replicate n z))) z
  take_replicate zero n = refl
  take_replicate (suc k) zero = refl
  take_replicate (suc k) (suc n) = ap (λ s. z ∷ s) (take_replicate k n)

  pub taken_zeros : (k : ℕ) (s : List A) → s ≡ replicate (length s) z → take k s ≡ replicate (length (take k s)) z
  taken_zeros k s e = subst (λ (l : List A). take k l ≡ replicate (length (take k l)) z) (sym e) (take_replicate k (length s))

  pub put_zeros : (k : ℕ) (s y : List A) → s ≡ replicate (length s) z → y ≡ replicate (length (take k s)) z → y ++ drop k s ≡ replicate (length s) z
  put_zeros k s y e f = ap (λ l. l ++ drop k s) (f ∙ sym (taken_zeros k s e)) ∙ take-append-drop k s ∙ e

  -- ---- the front of a list that ends in zeros

  module _ (k : ℕ) (s p : List A) (e : s ≡ padded z (length s) p) (h : length p ≤ k) (l : k ≤ length s) where
    pub front_padded : take k s ≡ padded z (length (take k s)) p
    front_padded = ap (λ x. take k x) e ∙ padded_less z (length s) k p h l ∙ ap (λ n. padded z n p) (sym (length-take-le k s l))

    pub put_front : (y q : List A) → y ≡ padded z (length (take k s)) q → length y ≡ length (take k s) → y ++ drop k s ≡ padded z (length s) q
    put_front y q f m =
        let n : length (take k s) ≡ k = length-take-le k s l in
        let d : drop k s ≡ replicate (length s - k) z = ap (λ x. drop k x) e ∙ padded_past z (length s) k p h in
        let g : y ≡ padded z k q = f ∙ ap (λ x. padded z x q) n in
        let long : length (padded z k q) ≡ k = ap length (sym g) ∙ m ∙ n in
        rw (g, d) (padded_more z (length s) k q (padded_fits z k q long) l)
