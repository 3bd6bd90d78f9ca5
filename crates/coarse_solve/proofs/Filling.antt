-- A list filled by index, several elements more, and the rows of a square by a list.
use Prim.Native.Nat.{ℕ, ◌+◌, ◌*◌, ◌<◌, ◌≤◌}
use mathlib.Core.Path.{◌≡◌, refl, ap, sym, ◌∙◌}
use mathlib.Core.List.{List, ◌++◌, append_assoc}
use native.Mathlib.Omega.{arith}
use native.Mathlib.Nat.{mul-le-mul, le_refl}
use lib.ListN.{get_or, take, drop}
use lib.Seq.{take_at, drop_at, drop-drop, get_or-take, get_or-drop}
use lib.Ieee.{Float, nan}
use Rattle.definitions.specs.Lists.{tab}
use Rattle.definitions.specs.Numbers.{◌*ᶠ◌, summed}
use Rattle.definitions.specs.Coarse.{coarse_solve}
use Rattle.laws.proofs.Lists.{length_tab, tab_append, tab_cong, get_d_tab}
use Rattle.coarse_solve.specs.RowSums.{product, row_sum, row_sums, inverse_solve}
use Rattle.coarse_solve.proofs.Sums.{products_are}

pub tab_several : {A : Type 0} (f : ℕ → A) (i m n : ℕ) (s d ys : List A) → s ≡ tab f i ++ drop i d → n ≡ m → ys ≡ tab (λ r. f (i + r)) m
    → take i s ++ (ys ++ drop n (drop i s)) ≡ tab f (i + m) ++ drop (i + m) d
tab_several f i m n s d ys e en ey =
    rw (e, en, ey, take_at (tab f i) (drop i d) i (length_tab f i), drop_at (tab f i) (drop i d) i (length_tab f i), drop-drop m i d, tab_append f i m)
    (sym (append_assoc (tab f i) (tab (λ r. f (i + r)) m) (drop (i + m) d)))

-- ---- the rows of a square

pub square_within : (c i r len : ℕ) (starts : List ℕ) → len ≡ c * c → i + 8 ≤ c → starts ≡ tab (λ r. (i + r) * c) 8 → r < 8 → get_or starts r 0 + c ≤ len
square_within c i r len starts el h e b =
    let t : get_or starts r 0 ≡ (i + r) * c = rw e (get_d_tab (λ r. (i + r) * c) 8 r 0 b) in
    let p : (i + r + 1) * c ≤ c * c = mul-le-mul (omega arith) (le_refl c) in
    omega arith

pub square_sums : (l y : List Float) (c i : ℕ) (starts : List ℕ) (sums : List Float) → starts ≡ tab (λ r. (i + r) * c) 8 → sums ≡ row_sums l y c starts 8 → sums ≡ tab (λ r. row_sum l y c ((i + r) * c)) 8
square_sums l y c i starts sums e es =
    es ∙ tab_cong (λ r. row_sum l y c (get_or starts r 0)) (λ r. row_sum l y c ((i + r) * c)) 8 (λ r b. ap (row_sum l y c) (rw e (get_d_tab (λ r. (i + r) * c) 8 r 0 b)))

pub square_dot : (l y : List Float) (c i n : ℕ) (s : Float) → n ≡ c → s ≡ summed (tab (product (take n (drop (i * c) l)) y) c) → s ≡ row_sum l y c (i * c)
square_dot l y c i n s en e =
    products_are (λ k. get_or l (i * c + k) nan *ᶠ get_or y k nan) (take n (drop (i * c) l)) y c c s refl
    (λ k b. let h : k < n = omega arith in rw (get_or-take n (drop (i * c) l) k nan h, get_or-drop (i * c) l k nan)) e

pub inverse_is : (c : ℕ) (l y : List Float) → inverse_solve c l y ≡ tab (λ i. row_sum l y c (i * c)) c
unfolding coarse_solve
inverse_is c l y = refl
