-- A node's entries stand together in the lists of the matrix.
use mathlib.Core.Path.{◌≡◌, refl, ap, sym, ◌∙◌}
use mathlib.Core.Bool.{Bool, true, not, ◌&&◌}
use mathlib.Core.List.{List, [], ◌∷◌, ◌++◌, map, flat_map, zip_with}
use Prim.Native.Nat.{ℕ, zero, suc, ◌+◌, ◌-◌, ◌*◌, ◌≤◌, ◌<◌, ◌/◌}
use native.Mathlib.Omega.{arith}
use native.Mathlib.Numerals.{add-one}
use native.Mathlib.Nat.{suc-mul, mul-le-mul_right}
use lib.Dec.{eqb}
use lib.ListN.{length, get_or, take, drop, take-append-drop}
use lib.Seq.{slice, take-take, drop-append-le, get_or-drop, get_or-take, length-slice, length-take-le}
use lib.Ieee.{Float}
use Rattle.definitions.specs.Lists.{any}
use Rattle.definitions.specs.Matrix.{Entry, csr, stored, row_of, entries_of}
use Rattle.definitions.specs.Links.{node_entries}
use Rattle.definitions.specs.Neighbours.{neighbours_of}
use Rattle.laws.proofs.Lists.{none, more}
use Rattle.adjacency.specs.Collect.{nodes_in, others, paired}
use Rattle.csr32.specs.Rows.{Real}
use Rattle.adjacency.specs.WellFormed.{WellFormed, Named, part_of}
use Rattle.adjacency.proofs.Ascending.{asc, up_to_asc, keep_same}
use Rattle.adjacency.proofs.Weighing.{stored_cons, stored_none}
use Rattle.adjacency.proofs.Measures.{Towards, Finite}

slice_join : {A : Type 0} (p q r : ℕ) (l : List A) → p ≤ q → q ≤ r → r ≤ length l → slice p q l ++ slice q r l ≡ slice p r l
slice_join p q r l a b c =
    let n : p ≤ length (take q l) = omega (arith, length-take-le q l (omega arith)) in
    sym (drop-append-le p (take q l) (drop q (take r l)) n) ∙ ap (drop p) (ap (λ x. x ++ drop q (take r l)) (sym (take-take q r l b)) ∙ take-append-drop q (take r l))

zip_join : (f : ℕ → Float → Entry) (a b : List ℕ) (c d : List Float) → length a ≡ length c → zip_with f a c ++ zip_with f b d ≡ zip_with f (a ++ b) (c ++ d)
unfolding zip_with
zip_join f [] b [] d h = refl
zip_join f [] b (y ∷ c) d h = absurd (omega (arith, h))
zip_join f (x ∷ a) b [] d h = absurd (omega (arith, h))
zip_join f (x ∷ a) b (y ∷ c) d h = ap (λ l. f x y ∷ l) (zip_join f a b c d (omega (arith, h)))

stored_join : (cols : List ℕ) (vals : List Float) (p q r : ℕ) → p ≤ q → q ≤ r → r ≤ length cols → length vals ≡ length cols → stored cols vals p q ++ stored cols vals q r ≡ stored cols vals p r
stored_join cols vals p q r a b c e =
    let i : q ≤ length cols = omega arith in
    let j : q ≤ length vals = omega arith in
    let k : r ≤ length vals = omega arith in
    zip_join (λ c v. record { col = c; value = v }) (slice p q cols) (slice q r cols) (slice p q vals) (slice q r vals) (length-slice p q cols i ∙ sym (length-slice p q vals j))
    ∙ rw (slice_join p q r cols a b c, slice_join p q r vals a b k)

slice_at : (p q k : ℕ) (l : List ℕ) → p + k < q → get_or (slice p q l) k 0 ≡ get_or l (p + k) 0
slice_at p q k l h = get_or-drop p (take q l) k 0 ∙ get_or-take q l (p + k) 0 h

pub next_row : (v size : ℕ) → (v + 1) * size ≡ v * size + size
next_row v size = rw (add-one v) (suc-mul v size)

pub row_fits : (v nodes size : ℕ) → v < nodes → v * size + size ≤ nodes * size
row_fits v nodes size h = let p : suc v * size ≤ nodes * size = mul-le-mul_right size h in rw (← suc-mul v size) p

module _ {strong : Bool} {nodes size : ℕ} {ptr cols : List ℕ} {vals : List Float} (w : WellFormed strong nodes size ptr cols vals) where
  rise : (i k e : ℕ) → e ≡ i + k → e ≤ nodes * size → get_or ptr i 0 ≤ get_or ptr e 0
  rise i zero e q h = let z : e ≡ i = omega arith in rw z (omega arith)
  rise i (suc k) zero q h = absurd (omega arith)
  rise i (suc k) (suc e) q h = omega (arith, rise i k e (omega arith) (omega arith), w.rises e (omega arith))

  rows_stored : (b m k p e : ℕ) → p ≡ b + m → e ≡ p + k → e ≤ nodes * size → flat_map (λ i. row_of ptr cols vals (b + i)) (asc m k) ≡ stored cols vals (get_or ptr p 0) (get_or ptr e 0)
  unfolding asc flat_map row_of
  rows_stored b m zero p e x y h = let z : e ≡ p = omega arith in rw z (sym (stored_none cols vals (get_or ptr p 0) (get_or ptr p 0) (omega arith)))
  rows_stored b m (suc k) p e x y h =
      rw (← x, rows_stored b (suc m) k (suc p) e (omega arith) (omega arith) h)
      (stored_join cols vals (get_or ptr p 0) (get_or ptr (suc p) 0) (get_or ptr e 0) (w.rises p (omega arith)) (rise (suc p) k e (omega arith) h) (w.within e h) w.both)

  towards : (k j e : ℕ) → e ≡ k + j → e ≤ length cols → Towards nodes size (stored cols vals k e)
  towards k zero e q h = rw (stored_none cols vals k e (omega arith)) none
  towards k (suc j) e q h = rw (stored_cons cols vals k e (omega arith) h (omega (arith, w.both))) (more (w.inside k (omega arith)) (towards (k + 1) j e (omega arith) h))

  finites : Real vals → (k j e : ℕ) → e ≡ k + j → e ≤ length cols → Finite (stored cols vals k e)
  finites f k zero e q h = rw (stored_none cols vals k e (omega arith)) none
  finites f k (suc j) e q h =
      let i : k < length vals = omega (arith, w.both) in
      rw (stored_cons cols vals k e (omega arith) h (omega (arith, w.both))) (more (f k i) (finites f (k + 1) j e (omega arith) h))

  any_map : (u : ℕ) (l : List Entry) → any (λ e. eqb (e.col / size) u) l ≡ any (λ x. eqb x u) (map (λ c. c / size) (map (λ (e : Entry). e.col) l))
  unfolding any
  any_map u [] = refl
  any_map u (e ∷ l) = rw (any_map u l)

  cols_of : (k j e : ℕ) → e ≡ k + j → e ≤ length cols → map (λ (e : Entry). e.col) (stored cols vals k e) ≡ slice k e cols
  unfolding zip_with
  cols_of k j e q h = zip_cols (slice k e cols) (slice k e vals) (length-slice k e cols h ∙ sym (length-slice k e vals (omega (arith, w.both))))
    where
      zip_cols : (xs : List ℕ) (ys : List Float) → length xs ≡ length ys → map (λ (e : Entry). e.col) (zip_with (λ c v. record { col = c; value = v }) xs ys) ≡ xs
      zip_cols [] ys h = refl
      zip_cols (x ∷ xs) [] h = absurd (omega arith)
      zip_cols (x ∷ xs) (y ∷ ys) h = ap (λ l. x ∷ l) (zip_cols xs ys (omega (arith, h)))

  module _ {v : ℕ} (s : v < nodes) where
    abbrev pub columns : List ℕ
    columns = part_of size v ptr cols

    abbrev pub numbers : List Float
    numbers = part_of size v ptr vals

    last : get_or ptr ((v + 1) * size) 0 ≡ get_or ptr (v * size + size) 0
    last = ap (λ k. get_or ptr k 0) (next_row v size)

    fit : v * size + size ≤ nodes * size
    fit = row_fits v nodes size s

    pub span_rises : get_or ptr (v * size) 0 ≤ get_or ptr ((v + 1) * size) 0
    span_rises = omega (arith, rise (v * size) size (v * size + size) refl fit, last)

    pub span_within : get_or ptr ((v + 1) * size) 0 ≤ length cols
    span_within = omega (arith, w.within (v * size + size) fit, last)

    pub columns_length : length columns ≡ get_or ptr ((v + 1) * size) 0 - get_or ptr (v * size) 0
    columns_length = length-slice (get_or ptr (v * size) 0) (get_or ptr ((v + 1) * size) 0) cols span_within

    -- the entries of node v
    pub entries_are : node_entries (csr (nodes * size) (nodes * size) ptr cols vals) size v ≡ paired columns numbers
    unfolding node_entries entries_of
    entries_are =
        ap (flat_map (λ i. row_of ptr cols vals (v * size + i))) (up_to_asc size)
        ∙ rows_stored (v * size) zero size (v * size) (v * size + size) (omega arith) refl fit
        ∙ rw last

    pub span_towards : Towards nodes size (paired columns numbers)
    span_towards = towards (get_or ptr (v * size) 0) (get_or ptr ((v + 1) * size) 0 - get_or ptr (v * size) 0) (get_or ptr ((v + 1) * size) 0) (omega (arith, span_rises)) span_within

    pub span_finite : strong ≡ true → Finite (paired columns numbers)
    span_finite e = finites (w.real e) (get_or ptr (v * size) 0) (get_or ptr ((v + 1) * size) 0 - get_or ptr (v * size) 0) (get_or ptr ((v + 1) * size) 0) (omega (arith, span_rises)) span_within

    -- Graph's neighbours are those that its columns name
    pub neighbours_are : others nodes v (nodes_in size columns) ≡ neighbours_of (csr (nodes * size) (nodes * size) ptr cols vals) size nodes v
    unfolding neighbours_of others
    neighbours_are =
        rw (up_to_asc nodes, entries_are) (keep_same (λ u. not (eqb u v) && any (λ x. eqb x u) (nodes_in size columns)) (λ u. not (eqb u v) && any (λ e. eqb (e.col / size) u) (paired columns numbers)) zero nodes
        (λ u x y. rw (any_map u (paired columns numbers), cols_of (get_or ptr (v * size) 0) (get_or ptr ((v + 1) * size) 0 - get_or ptr (v * size) 0) (get_or ptr ((v + 1) * size) 0) (omega (arith, span_rises)) span_within)))

    -- what is known of them
    pub span_named : Named nodes size columns numbers
    span_named =
        let n = columns_length in
        let at : (k : ℕ) → k < length columns → get_or columns k 0 ≡ get_or cols (get_or ptr (v * size) 0 + k) 0 = λ k h. slice_at (get_or ptr (v * size) 0) (get_or ptr ((v + 1) * size) 0) k cols (omega (arith, n)) in
        record {
          some = w.some;
          both = length-slice (get_or ptr (v * size) 0) (get_or ptr ((v + 1) * size) 0) vals (omega (arith, span_within, w.both)) ∙ sym n;
          inside = λ k h. rw (at k h) (w.inside (get_or ptr (v * size) 0 + k) (omega (arith, n, span_within)));
          low = λ k h. rw (at k h) (w.low (get_or ptr (v * size) 0 + k) (omega (arith, n, span_within)));
        }
