-- Laws of the lists that the definitions build: by index, by test, end to end. Each follows by recursion on the list or on the count.
use mathlib.Core.Path.{◌≡◌, refl, sym, ap, ◌∙◌, subst}
use mathlib.Core.Bool.{Bool, true, false, not, ◌||◌}
use mathlib.Core.List.{List, [], ◌∷◌, ◌++◌, map, flat_map, zip_with}
use Prim.Native.Nat.{ℕ, zero, suc, ◌+◌, ◌-◌, ◌*◌, ◌<◌}
use native.Mathlib.Nat.{not-suc-le-zero, zero-lt-suc, suc-le-suc_iff, le_of_suc-le-suc, zero-mul, zero-add, suc-add}
use native.Mathlib.Omega.{arith}
use lib.Dec.{T}
use lib.Ieee.Fits.{and_i, and_l, and_r}
use lib.ListN.{length, get_or, set, take, drop, replicate, length-append, get_or-append}
use lib.Seq.{get_or-append-add, take_at, drop_at, take-nil}
pub use Rattle.laws.specs.Every.{Each, none, more}
use Rattle.definitions.specs.Lists.{tab, up_to, square, between, keep, any, all}

pub up_lt : {i n : ℕ} → i < n → suc i < suc n
up_lt l = suc-le-suc_iff.1 l

-- ---- every element of a list

module _ {A : Type 0} where
  pub each_head : {P : A → Type 0} {x : A} {xs : List A} → Each P (x ∷ xs) → P x
  each_head (more h t) = h

  pub each_tail : {P : A → Type 0} {x : A} {xs : List A} → Each P (x ∷ xs) → Each P xs
  each_tail (more h t) = t

  pub each_imp : {P Q : A → Type 0} {xs : List A} → ((x : A) → P x → Q x) → Each P xs → Each Q xs
  each_imp f none = none
  each_imp f (more {x = x} h t) = more (f x h) (each_imp f t)

  pub each_any : {P : A → Type 0} (xs : List A) → ((x : A) → P x) → Each P xs
  each_any [] f = none
  each_any (x ∷ xs) f = more (f x) (each_any xs f)

  pub each_append : {P : A → Type 0} {xs ys : List A} → Each P xs → Each P ys → Each P (xs ++ ys)
  each_append none k = k
  each_append (more h t) k = more h (each_append t k)

  pub each_left : {P : A → Type 0} (xs ys : List A) → Each P (xs ++ ys) → Each P xs
  each_left [] ys h = none
  each_left (x ∷ xs) ys h = more (each_head h) (each_left xs ys (each_tail h))

  pub each_right : {P : A → Type 0} (xs : List A) {ys : List A} → Each P (xs ++ ys) → Each P ys
  each_right [] h = h
  each_right (x ∷ xs) h = each_right xs (each_tail h)

  pub each_tab : {P : A → Type 0} (f : ℕ → A) (n : ℕ) → ((i : ℕ) → i < n → P (f i)) → Each P (tab f n)
  unfolding tab
  each_tab f zero h = none
  each_tab f (suc n) h = more (h zero (zero-lt-suc n)) (each_tab (λ i. f (suc i)) n (λ i l. h (suc i) (up_lt l)))

  pub tab_each : {P : A → Type 0} (f : ℕ → A) (n i : ℕ) → Each P (tab f n) → i < n → P (f i)
  unfolding tab
  tab_each f zero i h l = absurd (not-suc-le-zero l)
  tab_each f (suc n) zero h l = each_head h
  tab_each f (suc n) (suc i) h l = tab_each (λ k. f (suc k)) n i (each_tail h) (le_of_suc-le-suc l)

  pub each_keep : {P : A → Type 0} (p : A → Bool) {xs : List A} → Each (λ x. T (p x) → P x) xs → Each P (keep p xs)
  unfolding keep
  each_keep p none = none
  each_keep {P} p (more {x = x} {xs = xs} h t) = go (p x) h (each_keep p t)
    where
      go : (b : Bool) → (T b → P x) → Each P (keep p xs) → Each P (elim b [ true ↦ x ∷ keep p xs | false ↦ keep p xs ])
      go true f k = more (f tt) k
      go false f k = k

  pub each_at : {P : A → Type 0} (xs : List A) (i : ℕ) (d : A) → Each P xs → i < length xs → P (get_or xs i d)
  each_at [] i d h l = absurd (not-suc-le-zero l)
  each_at (x ∷ xs) zero d h l = each_head h
  each_at (x ∷ xs) (suc i) d h l = each_at xs i d (each_tail h) (le_of_suc-le-suc l)

  -- inside the list or not
  pub each_read : {P : A → Type 0} (xs : List A) (i : ℕ) (d : A) → Each P xs → P d → P (get_or xs i d)
  each_read [] i d h p = p
  each_read (x ∷ xs) zero d h p = each_head h
  each_read (x ∷ xs) (suc i) d h p = each_read xs i d (each_tail h) p

  pub each_set : {P : A → Type 0} (xs : List A) (i : ℕ) (x : A) → Each P xs → P x → Each P (set xs i x)
  each_set [] i x h p = none
  each_set (y ∷ xs) zero x h p = more p (each_tail h)
  each_set (y ∷ xs) (suc i) x h p = more (each_head h) (each_set xs i x (each_tail h) p)

  pub each_replicate : {P : A → Type 0} (n : ℕ) (x : A) → P x → Each P (replicate n x)
  each_replicate zero x p = none
  each_replicate (suc n) x p = more p (each_replicate n x p)

  pub each_by : {P : A → Type 0} (xs : List A) (d : A) → ((i : ℕ) → i < length xs → P (get_or xs i d)) → Each P xs
  each_by [] d h = none
  each_by (x ∷ xs) d h = more (h zero (zero-lt-suc (length xs))) (each_by xs d (λ i l. h (suc i) (up_lt l)))

  pub each_all : (p : A → Bool) (xs : List A) → T (all p xs) → Each (λ x. T (p x)) xs
  unfolding all
  each_all p [] h = none
  each_all p (x ∷ xs) h = more (and_l (p x) (all p xs) h) (each_all p xs (and_r (p x) (all p xs) h))

  pub all_each : (p : A → Bool) {xs : List A} → Each (λ x. T (p x)) xs → T (all p xs)
  unfolding all
  all_each p none = tt
  all_each p (more {x = x} {xs = xs} h t) = and_i (p x) (all p xs) h (all_each p t)

  pub any_each : {P : A → Type 0} (p : A → Bool) {xs : List A} → Each P xs → T (any p xs) → (x : A) × P x × T (p x)
  unfolding any
  any_each p none t = absurd t
  any_each {P} p (more {x = x} {xs = xs} h k) t = go (p x) (λ u. u) t (λ u. any_each p k u)
    where
      go : (b : Bool) → (T b → T (p x)) → T (b || any p xs) → (T (any p xs) → (y : A) × P y × T (p y)) → (y : A) × P y × T (p y)
      go true f u ih = (x, h, f tt)
      go false f u ih = ih u

  pub any_none : (p : A → Bool) (xs : List A) → T (not (any p xs)) → Each (λ x. T (not (p x))) xs
  unfolding any
  any_none p [] t = none
  any_none p (x ∷ xs) t = go (p x) t (λ u. any_none p xs u) (λ u. u)
    where
      go : (b : Bool) → T (not (b || any p xs)) → (T (not (any p xs)) → Each (λ y. T (not (p y))) xs) → (T (not b) → T (not (p x))) → Each (λ y. T (not (p y))) (x ∷ xs)
      go true u ih f = absurd u
      go false u ih f = more (f tt) (ih u)

  pub each_both : {P Q : A → Type 0} {xs : List A} → Each P xs → Each Q xs → Each (λ x. P x × Q x) xs
  each_both none k = none
  each_both (more h t) k = more (h, each_head k) (each_both t (each_tail k))

  pub each_take : {P : A → Type 0} (n : ℕ) {xs : List A} → Each P xs → Each P (take n xs)
  each_take zero h = none
  each_take (suc n) none = none
  each_take (suc n) (more h t) = more h (each_take n t)

  pub each_drop : {P : A → Type 0} (n : ℕ) {xs : List A} → Each P xs → Each P (drop n xs)
  each_drop zero h = h
  each_drop (suc n) none = none
  each_drop (suc n) (more h t) = each_drop n t

  pub keep_none : (p : A → Bool) {xs : List A} → Each (λ x. T (not (p x))) xs → keep p xs ≡ []
  unfolding keep
  keep_none p none = refl
  keep_none p (more {x = x} {xs = xs} h t) = go (p x) h (keep_none p t)
    where
      go : (b : Bool) → T (not b) → keep p xs ≡ [] → ◌≡◌ {A = List A} (elim b [ true ↦ x ∷ keep p xs | false ↦ keep p xs ]) []
      go true k e = absurd k
      go false k e = e

  -- ---- by index

  pub length_tab : (f : ℕ → A) (n : ℕ) → length (tab f n) ≡ n
  unfolding tab
  length_tab f zero = refl
  length_tab f (suc n) = ap suc (length_tab (λ i. f (suc i)) n)

  pub get_d_tab : (f : ℕ → A) (n i : ℕ) (d : A) → i < n → get_or (tab f n) i d ≡ f i
  unfolding tab
  get_d_tab f zero i d l = absurd (not-suc-le-zero l)
  get_d_tab f (suc n) zero d l = refl
  get_d_tab f (suc n) (suc i) d l = get_d_tab (λ k. f (suc k)) n i d (le_of_suc-le-suc l)

  -- inside it is the function's value, outside the default
  pub tab_reads : (P : A → Type 0) (f : ℕ → A) (n i : ℕ) (d : A) → (i < n → P (f i)) → P d → P (get_or (tab f n) i d)
  unfolding tab
  tab_reads P f zero i d h k = k
  tab_reads P f (suc n) zero d h k = h (zero-lt-suc n)
  tab_reads P f (suc n) (suc i) d h k = tab_reads P (λ j. f (suc j)) n i d (λ l. h (up_lt l)) k

  pub tab_cong : (f g : ℕ → A) (n : ℕ) → ((i : ℕ) → i < n → f i ≡ g i) → tab f n ≡ tab g n
  unfolding tab
  tab_cong f g zero h = refl
  tab_cong f g (suc n) h =
      ap (λ (x : A). x ∷ tab (λ i. f (suc i)) n) (h zero (zero-lt-suc n))
      ∙ ap (λ (xs : List A). g zero ∷ xs) (tab_cong (λ i. f (suc i)) (λ i. g (suc i)) n (λ i l. h (suc i) (up_lt l)))

  -- a list is a tab by its elements
  pub tab_append : (f : ℕ → A) (m n : ℕ) → tab f (m + n) ≡ tab f m ++ tab (λ i. f (m + i)) n
  unfolding tab
  tab_append f zero n = rw (zero-add n) (tab_cong f (λ i. f (0 + i)) n (λ i _. rw (zero-add i)))
  tab_append f (suc m) n = rw (suc-add m n) (ap (λ t. f 0 ∷ t) (tab_append (λ i. f (suc i)) m n ∙ rw (tab_cong (λ i. f (suc (m + i))) (λ i. f (suc m + i)) n (λ i _. rw (suc-add m i)))))

  pub tab_same : (f : ℕ → A) (x : A) (n : ℕ) → ((i : ℕ) → f i ≡ x) → tab f n ≡ replicate n x
  unfolding tab
  tab_same f x zero e = refl
  tab_same f x (suc n) e = rw (e 0) (ap (λ t. x ∷ t) (tab_same (λ i. f (suc i)) x n (λ i. e (suc i))))

  pub tab_is : (d : A) (l : List A) (f : ℕ → A) (n : ℕ) → length l ≡ n → ((j : ℕ) → j < n → get_or l j d ≡ f j) → l ≡ tab f n
  unfolding tab
  tab_is d [] f zero e h = refl
  tab_is d [] f (suc n) e h = absurd (omega arith)
  tab_is d (x ∷ xs) f zero e h = absurd (omega arith)
  tab_is d (x ∷ xs) f (suc n) e h = rw (tab_is d xs (λ i. f (suc i)) n (omega arith) (λ j k. h (suc j) (omega arith)), h zero (omega arith))

pub each_up_to : {P : ℕ → Type 0} (n : ℕ) → ((i : ℕ) → i < n → P i) → Each P (up_to n)
unfolding up_to
each_up_to n h = each_tab (λ i. i) n h

pub all_up_to : (p : ℕ → Bool) (n : ℕ) → T (all p (up_to n)) → (i : ℕ) → i < n → T (p i)
unfolding up_to
all_up_to p n h i l =
    subst (λ (k : ℕ). T (p k)) (get_d_tab (λ k. k) n i 0 l)
    (each_at {P = λ k. T (p k)} (tab (λ k. k) n) i 0 (each_all p (tab (λ k. k) n) h) (subst (λ (m : ℕ). i < m) (sym (length_tab (λ k. k) n)) l))

-- some index passes a test
pub any_tab : (p : ℕ → Bool) (f : ℕ → ℕ) (n i : ℕ) → i < n → T (p (f i)) → T (any p (tab f n))
unfolding tab any
any_tab p f zero i l h = absurd (not-suc-le-zero l)
any_tab p f (suc n) zero l h = go (p (f 0)) h
  where
    go : (b : Bool) → T b → T (b || any p (tab (λ i. f (suc i)) n))
    go true k = tt
    go false k = absurd k
any_tab p f (suc n) (suc i) l h = go (p (f 0)) (any_tab p (λ k. f (suc k)) n i (le_of_suc-le-suc l) h)
  where
    go : (b : Bool) → T (any p (tab (λ k. f (suc k)) n)) → T (b || any p (tab (λ k. f (suc k)) n))
    go true k = tt
    go false k = k

pub tab_any : (p : ℕ → Bool) (f : ℕ → ℕ) (n : ℕ) → T (any p (tab f n)) → (i : ℕ) × (i < n) × T (p (f i))
unfolding tab any
tab_any p f zero h = absurd h
tab_any p f (suc n) h = go (λ k. tab_any p (λ i. f (suc i)) n k) (p (f 0)) (λ k. k) h
  where
    go : (T (any p (tab (λ k. f (suc k)) n)) → (i : ℕ) × (i < n) × T (p (f (suc i)))) → (b : Bool) → (T b → T (p (f 0))) → T (b || any p (tab (λ k. f (suc k)) n))
        → (i : ℕ) × (i < suc n) × T (p (f i))
    go rest true g k = (0, zero-lt-suc n, g tt)
    go rest false g k = let r = rest k in (suc r.0, up_lt r.1, r.2)

-- ---- end to end

module _ {A B : Type 0} where
  pub each_map : {P : B → Type 0} (f : A → B) {xs : List A} → Each (λ x. P (f x)) xs → Each P (map f xs)
  each_map f none = none
  each_map f (more h t) = more h (each_map f t)

  pub each_unmap : {P : B → Type 0} (f : A → B) (xs : List A) → Each P (map f xs) → Each (λ x. P (f x)) xs
  each_unmap f [] h = none
  each_unmap f (x ∷ xs) h = more (each_head h) (each_unmap f xs (each_tail h))

  pub each_flat_map : {P : B → Type 0} (f : A → List B) {xs : List A} → Each (λ x. Each P (f x)) xs → Each P (flat_map f xs)
  unfolding flat_map
  each_flat_map f none = none
  each_flat_map f (more h t) = each_append h (each_flat_map f t)

  pub flat_map_none : (f : A → List B) {xs : List A} → Each (λ x. f x ≡ []) xs → flat_map f xs ≡ []
  unfolding flat_map
  flat_map_none f none = refl
  flat_map_none f (more {xs = xs} h t) = ap (λ (ys : List B). ys ++ flat_map f xs) h ∙ flat_map_none f t

  pub flat_map_cong : (f g : A → List B) {xs : List A} → Each (λ x. f x ≡ g x) xs → flat_map f xs ≡ flat_map g xs
  unfolding flat_map
  flat_map_cong f g none = refl
  flat_map_cong f g (more {x = x} {xs = xs} h t) = ap (λ (ys : List B). ys ++ flat_map f xs) h ∙ ap (λ (ys : List B). g x ++ ys) (flat_map_cong f g t)

pub each_zip_with : {A B C : Type 0} {P : C → Type 0} {Q : A → Type 0} (f : A → B → C) {xs : List A} (ys : List B) → ((x : A) (y : B) → Q x → P (f x y)) → Each Q xs
    → Each P (zip_with f xs ys)
unfolding zip_with
each_zip_with f ys h none = none
each_zip_with f [] h (more q t) = none
each_zip_with f (y ∷ ys) h (more {x = x} q t) = more (h x y q) (each_zip_with f ys h t)

step_length : (n w : ℕ) → w + n * w ≡ suc n * w
step_length n w = omega arith

step_index : (i w j : ℕ) → suc i * w + j ≡ w + (i * w + j)
step_index i w j = omega arith

-- rows of one length, end to end
module _ {A B : Type 0} (f : A → List B) (w : ℕ) where
  pub length_rows : (g : ℕ → A) (n : ℕ) → ((i : ℕ) → i < n → length (f (g i)) ≡ w) → length (flat_map f (tab g n)) ≡ n * w
  unfolding flat_map tab
  length_rows g zero h = sym (zero-mul w)
  length_rows g (suc n) h =
      length-append (f (g 0)) (flat_map f (tab (λ i. g (suc i)) n))
      ∙ ap (λ (m : ℕ). m + length (flat_map f (tab (λ i. g (suc i)) n))) (h 0 (zero-lt-suc n))
      ∙ ap (λ (m : ℕ). w + m) (length_rows (λ i. g (suc i)) n (λ i l. h (suc i) (up_lt l)))
      ∙ step_length n w

  pub get_d_rows : (g : ℕ → A) (n i j : ℕ) (d : B) → ((k : ℕ) → k < n → length (f (g k)) ≡ w) → i < n → j < w → get_or (flat_map f (tab g n)) (i * w + j) d ≡ get_or (f (g i)) j d
  unfolding flat_map tab
  get_d_rows g zero i j d h l m = absurd (not-suc-le-zero l)
  get_d_rows g (suc n) zero j d h l m =
      ap (λ (k : ℕ). get_or (f (g 0) ++ flat_map f (tab (λ i. g (suc i)) n)) k d) (ap (λ (k : ℕ). k + j) (zero-mul w) ∙ zero-add j)
      ∙ get_or-append (f (g 0)) (flat_map f (tab (λ i. g (suc i)) n)) d j (subst (λ (k : ℕ). j < k) (sym (h 0 (zero-lt-suc n))) m)
  get_d_rows g (suc n) (suc i) j d h l m =
      let rest = flat_map f (tab (λ k. g (suc k)) n) in
      ap (λ (k : ℕ). get_or (f (g 0) ++ rest) k d) (step_index i w j ∙ ap (λ (k : ℕ). k + (i * w + j)) (sym (h 0 (zero-lt-suc n))))
      ∙ get_or-append-add (f (g 0)) rest (i * w + j) d
      ∙ get_d_rows (λ k. g (suc k)) n i j d (λ k t. h (suc k) (up_lt t)) (le_of_suc-le-suc l) m

pub get_d_square : {A : Type 0} (n : ℕ) (f : ℕ → ℕ → A) (i j : ℕ) (d : A) → i < n → j < n → get_or (square n f) (i * n + j) d ≡ f i j
unfolding square up_to
get_d_square n f i j d l m = get_d_rows (λ k. tab (f k) n) n (λ k. k) n i j d (λ k t. length_tab (f k) n) l m ∙ get_d_tab (f i) n j d m

pub length_square : {A : Type 0} (n : ℕ) (f : ℕ → ℕ → A) → length (square n f) ≡ n * n
unfolding square up_to
length_square n f = length_rows (λ k. tab (f k) n) n (λ k. k) n (λ k t. length_tab (f k) n)

pub square_cong : {A : Type 0} (n : ℕ) (f g : ℕ → ℕ → A) → ((i j : ℕ) → i < n → j < n → f i j ≡ g i j) → square n f ≡ square n g
unfolding square
square_cong n f g h = flat_map_cong (λ i. tab (f i) n) (λ i. tab (g i) n) (each_up_to n (λ i l. tab_cong (f i) (g i) n (λ j m. h i j l m)))

pub each_square : {A : Type 0} {P : A → Type 0} (n : ℕ) (f : ℕ → ℕ → A) → ((i j : ℕ) → P (f i j)) → Each P (square n f)
unfolding square
each_square n f h = each_flat_map (λ i. tab (f i) n) (each_up_to n (λ i _. each_tab (f i) n (λ j _. h i j)))

-- a part in the middle
pub part_mid : {A : Type 0} (p q r : List A) (s e : ℕ) → length p ≡ s → s + length q ≡ e → between s e (p ++ (q ++ r)) ≡ q
part_mid {A} p q r s e h g =
    ap (λ (l : List A). take (e - s) l) (drop_at p (q ++ r) s h) ∙ take_at q r (e - s) (back (length q) s e g)
  where
    back : (x y z : ℕ) → y + x ≡ z → x ≡ z - y
    back x y z u = omega arith

-- a list cut in front and behind, in either order
pub take_drop : {A : Type 0} (m n : ℕ) (l : List A) → take (n - m) (drop m l) ≡ drop m (take n l)
take_drop zero n l = let e : n - zero ≡ n = omega arith in rw e
take_drop (suc m) zero l = let e : zero - suc m ≡ zero = omega arith in rw e
take_drop (suc m) (suc n) [] = take-nil (suc n - suc m)
take_drop (suc m) (suc n) (x ∷ l) = let e : suc n - suc m ≡ n - m = omega arith in rw e (take_drop m n l)
