-- A row of A P in an accumulator: a stamp and a sum for each of c columns, and a list of those touched; and what it adds to the coarse matrix.
use Rattle.std.specs.Prelude.{ℕ, suc, ◌+◌, ◌*◌, ◌<◌, ◌≡◌, true, false, eqb, length, get_or, take, Float}
use mathlib.Core.List.{List, [], ◌∷◌, ◌++◌, map, flat_map, foldl}
use Rattle.std.specs.Float.{nan}
use Rattle.definitions.specs.Lists.{up_to, keep}
use Rattle.definitions.specs.Numbers.{◌+ᶠ◌, ◌*ᶠ◌, total}
use Rattle.definitions.specs.Matrix.{Matrix, Entry, row_of, values_where}
use Rattle.definitions.specs.Coarse.{weighted_sum, weights_at, product_terms}
use Rattle.laws.specs.Scatter.{put}
use Rattle.csr32.specs.declared.rows.CompressedRows.{CompressedRows}

-- the weights of each row of a transfer
abbrev pub weights_of : CompressedRows → ℕ → List Entry
weights_of t = row_of t.row_ptr.now t.col_idx.now t.values.now

-- a value times the weights of a transfer row
abbrev pub scaled : Float → List Entry → List Entry
scaled v ws = map (λ w. put w.col (v *ᶠ w.value)) ws

-- what a row of the matrix puts into the accumulator
unfoldable pub product_puts : (ℕ → List Entry) → List Entry → List Entry
product_puts transfer es = flat_map (λ e. scaled e.value (transfer e.col)) es

-- the numbers put at j
abbrev pub put_at : ℕ → List Entry → List Float
put_at j es = values_where (λ k. eqb k j) es

-- j once, where there are terms
unfoldable pub mark : List Float → ℕ → List ℕ
mark [] j = []
mark (t ∷ ts) j = j ∷ []

-- how many numbers differ from a token
unfoldable pub others : ℕ → List ℕ → ℕ
others token [] = 0
others token (x ∷ xs) = elim (eqb x token) [ true ↦ others token xs | false ↦ suc (others token xs) ]

-- the list of touched columns has room for one more wherever a stamp is missing
abbrev pub Room : ℕ → List ℕ → ℕ → Type 0
Room token stamps count = count + others token stamps ≡ length stamps

-- what the stamp and the sum of column j tell
abbrev pub Told : ℕ → List ℕ → List Float → ℕ → List Float → Type 0
Told token stamps sums j [] = get_or stamps j 0 < token
Told token stamps sums j (t ∷ ts) = (get_or stamps j 0 ≡ token) × (get_or sums j nan ≡ total (t ∷ ts))

-- the state once the entries es were put
pub record Seen (c token : ℕ) (stamps touched : List ℕ) (sums : List Float) (count : ℕ) (es : List Entry) : Type 0 where
  pub told : (j : ℕ) → j < c → Told token stamps sums j (put_at j es)
  pub once : (j : ℕ) → keep (λ k. eqb k j) (take count touched) ≡ mark (put_at j es) j
  pub below : (t : ℕ) → t < count → get_or touched t 0 < c

-- what putting more entries does to a state
pub record Put (c token : ℕ) (stamps₀ touched₀ : List ℕ) (sums₀ : List Float) (count₀ : ℕ) (stamps touched : List ℕ) (sums : List Float) (count : ℕ) (es : List Entry) : Type 0 where
  pub room : Room token stamps count
  pub seen : (before : List Entry) → Seen c token stamps₀ touched₀ sums₀ count₀ before → Seen c token stamps touched sums count (before ++ es)

-- weight times the sums of the touched columns, from dst on
abbrev pub weight_puts : List Float → ℕ → Float → List ℕ → List Entry
weight_puts sums dst w js = map (λ k. put (dst + k) (w *ᶠ get_or sums k nan)) js

-- for each weight of a transfer row
unfoldable pub weighed_puts : ℕ → List Float → List ℕ → List Entry → List Entry
weighed_puts c sums js ws = flat_map (λ e. weight_puts sums (e.col * c) e.value js) ws

-- what row r adds to the coarse entry (i, j)
abbrev pub row_terms : Matrix → (ℕ → List Entry) → ℕ → ℕ → ℕ → List Float
row_terms a transfer r i j = flat_map (λ w. weighted_sum w (product_terms a transfer r j)) (weights_at a transfer r i)

-- row r is in
pub record RowAdded (a : Matrix) (transfer : ℕ → List Entry) (c r : ℕ) (stamps : List ℕ) (coarse₀ coarse : List Float) : Type 0 where
  pub stamped : (j : ℕ) → j < c → get_or stamps j 0 < suc (suc r)
  pub entries : (i j : ℕ) → i < c → j < c → get_or coarse (i * c + j) nan ≡ foldl (λ s x. s +ᶠ x) (get_or coarse₀ (i * c + j) nan) (row_terms a transfer r i j)

-- the first n rows are in
pub record RowsAdded (a : Matrix) (transfer : ℕ → List Entry) (c n : ℕ) (stamps : List ℕ) (coarse : List Float) : Type 0 where
  pub stamped : (j : ℕ) → j < c → get_or stamps j 0 < suc n
  pub entries : (i j : ℕ) → i < c → j < c → get_or coarse (i * c + j) nan ≡ total (flat_map (λ r. row_terms a transfer r i j) (up_to n))
