-- Squares, and the rest of a list, by their elements; zeros.
use Prim.Native.Nat.{ℕ, zero, suc, ◌+◌, ◌-◌, ◌*◌, ◌<◌, ◌≤◌}
use mathlib.Core.Path.{◌≡◌, refl, ap, sym, ◌∙◌}
use mathlib.Core.List.{List, [], ◌∷◌, ◌++◌, flat_map, append-nil}
use native.Mathlib.Omega.{arith}
use lib.ListN.{length, get_or, take, drop, replicate, length-drop, length-replicate, replicate-append-replicate, drop_of_length-le, take-append-drop}
use lib.Seq.{get_or-take, get_or-drop, length-take-le, take_at, drop_at, take_all, ext_get_or}
use Rattle.definitions.specs.Lists.{tab, up_to, square}
use Rattle.laws.proofs.Lists.{tab_is}

blocks_is : {A : Type 0} (d : A) (c : ℕ) (f : ℕ → ℕ → A) (n : ℕ) (g : ℕ → ℕ) (l : List A) → length l ≡ n * c
    → ((i j : ℕ) → i < n → j < c → get_or l (i * c + j) d ≡ f (g i) j) → l ≡ flat_map (λ i. tab (f i) c) (tab g n)
unfolding tab flat_map
blocks_is d c f zero g [] e h = refl
blocks_is d c f zero g (x ∷ xs) e h = absurd (omega arith)
blocks_is d c f (suc n) g l e h =
    sym (take-append-drop c l)
    ∙ rw (
      tab_is d (take c l) (f (g zero)) c (length-take-le c l (omega arith)) (λ j k. get_or-take c l j d k ∙ here j k),
      blocks_is d c f n (λ i. g (suc i)) (drop c l) (length-drop c l ∙ omega arith) (λ i j p q. get_or-drop c l (i * c + j) d ∙ there i j p q),
    )
  where
    here : (j : ℕ) → j < c → get_or l j d ≡ f (g zero) j
    here j k = let z : zero * c + j ≡ j = omega arith in rw z at (h zero j (omega arith) k)

    there : (i j : ℕ) → i < n → j < c → get_or l (c + (i * c + j)) d ≡ f (g (suc i)) j
    there i j p q = let z : c + (i * c + j) ≡ suc i * c + j = omega arith in rw z (h (suc i) j (omega arith) q)

pub square_is : {A : Type 0} (d : A) (c : ℕ) (f : ℕ → ℕ → A) (l : List A) → length l ≡ c * c
    → ((i j : ℕ) → i < c → j < c → get_or l (i * c + j) d ≡ f i j) → l ≡ square c f
unfolding square up_to
square_is d c f l e h = blocks_is d c f c (λ i. i) l e h

-- a list by its first n elements, and those after them
pub split_is : {A : Type 0} (d : A) (n : ℕ) (l xs m : List A) → length l ≡ length m → n ≤ length m → take n l ≡ xs → ((p : ℕ) → n ≤ p → get_or l p d ≡ get_or m p d) → l ≡ xs ++ drop n m
split_is d n l xs m e h q rest =
    sym (take-append-drop n l) ∙ rw q (ap (λ t. xs ++ t)
    (ext_get_or d (drop n l) (drop n m) (length-drop n l ∙ rw e (sym (length-drop n m))) (λ i k. get_or-drop n l i d ∙ rest (n + i) (omega arith) ∙ sym (get_or-drop n m i d))))

-- ---- zeros

pub take_zeros : {A : Type 0} (n k : ℕ) (z : A) → n ≤ k → take n (replicate k z) ≡ replicate n z
take_zeros n k z h =
    let e : n + (k - n) ≡ k = omega arith in
    ap (λ t. take n (replicate t z)) (sym e) ∙ ap (λ t. take n t) (sym (replicate-append-replicate n (k - n) z)) ∙ take_at (replicate n z) (replicate (k - n) z) n (length-replicate n z)

pub drop_zeros : {A : Type 0} (n k : ℕ) (z : A) → n ≤ k → drop n (replicate k z) ≡ replicate (k - n) z
drop_zeros n k z h =
    let e : n + (k - n) ≡ k = omega arith in
    ap (λ t. drop n (replicate t z)) (sym e) ∙ ap (λ t. drop n t) (sym (replicate-append-replicate n (k - n) z)) ∙ drop_at (replicate n z) (replicate (k - n) z) n (length-replicate n z)

-- the rest of a list cleared
pub tail_zeros : {A : Type 0} (c : ℕ) (w z : List A) (o : A) → c ≤ length w → z ≡ replicate (length (take (length w - c) (drop c w))) o
    → take c w ++ (z ++ drop (length w - c) (drop c w)) ≡ take c w ++ replicate (length w - c) o
tail_zeros c w z o h e =
    let n : length (drop c w) ≡ length w - c = length-drop c w in
    let all : take (length w - c) (drop c w) ≡ drop c w = take_all (length w - c) (drop c w) (omega arith) in
    let none : drop (length w - c) (drop c w) ≡ [] = drop_of_length-le (drop c w) {i = length w - c} (omega arith) in
    rw (none, append-nil, e, all, n)
