-- Lists by index and by test. Nothing here knows of matrices.
use Rattle.std.specs.Prelude.{ℕ, zero, suc, ◌+◌, ◌-◌, Bool, true, false, ◌&&◌, ◌||◌, ltb, length, take, drop, replicate}
use mathlib.Core.List.{List, [], ◌∷◌, ◌++◌, flat_map}

-- f 0, f 1, .., f (n - 1)
unfoldable pub tab : {A : Type 0} → (ℕ → A) → ℕ → List A
tab f zero = []
tab f (suc n) = f zero ∷ tab (λ i. f (suc i)) n

-- 0, 1, .., n - 1
unfoldable pub up_to : ℕ → List ℕ
up_to n = tab (λ i. i) n

-- an n by n matrix, row after row: the entry (i, j) at i * n + j
unfoldable pub square : {A : Type 0} → ℕ → (ℕ → ℕ → A) → List A
square n f = flat_map (λ i. tab (f i) n) (up_to n)

-- the elements from a up to e: the same as `lib.Seq.slice a e xs`, in the form that a part of a lent list has
abbrev pub between : {A : Type 0} → ℕ → ℕ → List A → List A
between a e xs = take (e - a) (drop a xs)

-- those that pass a test, in order
unfoldable pub keep : {A : Type 0} → (A → Bool) → List A → List A
keep p [] = []
keep p (x ∷ xs) = elim (p x) [ true ↦ x ∷ keep p xs | false ↦ keep p xs ]

unfoldable pub any : {A : Type 0} → (A → Bool) → List A → Bool
any p [] = false
any p (x ∷ xs) = p x || any p xs

unfoldable pub all : {A : Type 0} → (A → Bool) → List A → Bool
all p [] = true
all p (x ∷ xs) = p x && all p xs

-- some element is above the one after it
unfoldable pub falls : List ℕ → Bool
falls [] = false
falls (x ∷ []) = false
falls (x ∷ (y ∷ ys)) = ltb y x || falls (y ∷ ys)

-- the list with zeros after it, up to n elements
unfoldable pub padded : {A : Type 0} → A → ℕ → List A → List A
padded z n xs = xs ++ replicate (n - length xs) z

-- lists laid end to end: where each starts, and where the last one ends
unfoldable pub pointers_from : {A : Type 0} → ℕ → List (List A) → List ℕ
pointers_from n [] = n ∷ []
pointers_from n (row ∷ rows) = n ∷ pointers_from (n + length row) rows

abbrev pub joined_lists : {A : Type 0} → List (List A) → List A
joined_lists rows = flat_map (λ row. row) rows
