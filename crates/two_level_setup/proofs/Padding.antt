-- Lists with zeros after them: their parts, and parts put together.
use mathlib.Core.Path.{◌≡◌, ap, sym, ◌∙◌}
use mathlib.Core.List.{List, [], ◌++◌, append_assoc}
use Prim.Native.Nat.{ℕ, ◌+◌, ◌-◌, ◌≤◌}
use native.Mathlib.Omega.{arith}
use lib.ListN.{length, take, drop, replicate, length-append, length-replicate, length-take, length-drop, replicate-append-replicate}
use lib.Seq.{take_at, drop_at, take_all, drop-append-add}
use borrow.Rule.Slice.PartMut.{put_mid}
use Rattle.definitions.specs.Lists.{padded}
use Rattle.numbers.specs.Copied.{copied}
use Rattle.two_level_grouping.proofs.Kept.{drop_replicate, put_tail}

module _ {A : Type 0} (z : A) where
  pub padded_none : (n : ℕ) → padded z n [] ≡ replicate n z
  unfolding padded
  padded_none n = let e : n - 0 ≡ n = omega arith in rw e

  pub padded_length : (n : ℕ) (xs : List A) → length xs ≤ n → length (padded z n xs) ≡ n
  unfolding padded
  padded_length n xs h = length-append xs (replicate (n - length xs) z) ∙ rw (length-replicate (n - length xs) z) (omega arith)

  pub padded_front : (n k : ℕ) (p q : List A) → length p ≡ k → take k (padded z n (p ++ q)) ≡ p
  unfolding padded
  padded_front n k p q h = rw (append_assoc p q (replicate (n - length (p ++ q)) z)) (take_at p (q ++ replicate (n - length (p ++ q)) z) k h)

  pub padded_all : (n k : ℕ) (p : List A) → length p ≡ k → take k (padded z n p) ≡ p
  unfolding padded
  padded_all n k p h = take_at p (replicate (n - length p) z) k h

  less : (n p q : ℕ) → n - (p + q) ≡ n - p - q
  less n p q = omega arith

  pub padded_back : (n k : ℕ) (p q : List A) → length p ≡ k → drop k (padded z n (p ++ q)) ≡ padded z (n - k) q
  unfolding padded
  padded_back n k p q h =
      rw (append_assoc p q (replicate (n - length (p ++ q)) z)) (drop_at p (q ++ replicate (n - length (p ++ q)) z) k h
      ∙ ap (λ m. q ++ replicate m z) (ap (λ x. n - x) (length-append p q) ∙ less n (length p) (length q) ∙ ap (λ x. n - x - length q) h))

  pub padded_join : (n k : ℕ) (p q : List A) → length p ≡ k → p ++ padded z (n - k) q ≡ padded z n (p ++ q)
  unfolding padded
  padded_join n k p q h =
      sym (append_assoc p q (replicate (n - k - length q) z))
      ∙ ap (λ m. (p ++ q) ++ replicate m z) (sym (ap (λ x. n - x) (length-append p q) ∙ less n (length p) (length q) ∙ ap (λ x. n - x - length q) h))

  pub padded_past : (n k : ℕ) (p : List A) → length p ≤ k → drop k (padded z n p) ≡ replicate (n - k) z
  unfolding padded
  padded_past n k p h =
      let e : k ≡ length p + (k - length p) = omega arith in
      ap (λ m. drop m (p ++ replicate (n - length p) z)) e ∙ drop-append-add p (replicate (n - length p) z) (k - length p) ∙ drop_replicate z (k - length p) (n - length p)
      ∙ ap (λ m. replicate m z) (over n (length p) k h)
    where
      over : (x y w : ℕ) → y ≤ w → x - y - (w - y) ≡ x - w
      over x y w l = omega arith

  -- more zeros, and fewer
  pub padded_more : (n k : ℕ) (p : List A) → length p ≤ k → k ≤ n → padded z k p ++ replicate (n - k) z ≡ padded z n p
  unfolding padded
  padded_more n k p h l =
      append_assoc p (replicate (k - length p) z) (replicate (n - k) z)
      ∙ ap (λ s. p ++ s) (replicate-append-replicate (k - length p) (n - k) z ∙ ap (λ m. replicate m z) (over (length p) h))
    where
      over : (y : ℕ) → y ≤ k → k - y + (n - k) ≡ n - y
      over y q = omega arith

  pub padded_less : (n k : ℕ) (p : List A) → length p ≤ k → k ≤ n → take k (padded z n p) ≡ padded z k p
  padded_less n k p h l = ap (λ s. take k s) (sym (padded_more n k p h l)) ∙ take_at (padded z k p) (replicate (n - k) z) k (padded_length k p h)

  -- what fits with its zeros is no longer than they reach
  pub padded_fits : (n : ℕ) (p : List A) → length (padded z n p) ≡ n → length p ≤ n
  unfolding padded
  padded_fits n p e = let l = length-append p (replicate (n - length p) z) in omega (arith, e, l)

  -- a longer list copied over a padded one
  pub copied_longer : (n : ℕ) (xs ys : List A) → length xs ≤ length ys → length ys ≤ n → copied ys (padded z n xs) ≡ padded z n ys
  unfolding copied padded
  copied_longer n xs ys h k =
      let l : length (padded z n xs) ≡ n = padded_length n xs (omega arith) in
      rw (l, take_all n ys k, padded_past n (length ys) xs h)

-- the tail of a list, lent, is the whole of what is dropped
pub tail_is : {A : Type 0} (a : ℕ) (s : List A) → take (length s - a) (drop a s) ≡ drop a s
tail_is a s = take_all (length s - a) (drop a s) (rw (length-drop a s) (omega arith))

pub tail_put : {A : Type 0} (a : ℕ) (s y : List A) → a ≤ length s → (take a (put_mid a (length s - a) s y) ≡ take a s) × (drop a (put_mid a (length s - a) s y) ≡ y)
tail_put a s y h =
    let l : length (take a s) ≡ a = length-take a s ∙ omega arith in
    (rw (put_tail a s y) (take_at (take a s) y a l), rw (put_tail a s y) (drop_at (take a s) y a l))
