-- The numbers that a text spells answer it as the text itself does.
use mathlib.Core.Path.{◌≡◌, refl, ap, sym, ◌∙◌}
use mathlib.Core.Bool.{Bool, true, false, not, ◌&&◌, true≢false}
use Rattle.std.specs.Prelude.{Option, Some, None}
use mathlib.Core.List.{List, [], ◌∷◌, ◌++◌, map, append-nil}
use Prim.Native.Nat.{ℕ, zero, suc, ◌+◌, ◌-◌, ◌*◌, ◌≤◌, ◌<◌}
use native.Mathlib.Omega.{arith}
use borrow.Author.Tests.{leb-true, leb-false, le-leb, lt-leb, ne_eqb, not-true}
use lib.Dec.{leb, ltb, eqb}
use lib.ListN.{length, get_or, take, drop, length-append}
use lib.Seq.{append_snoc, length-take-le}
use Rattle.std.proofs.lemmas.List.{length-map, map-append}
use Rattle.definitions.specs.Lists.{any, falls}
use Rattle.definitions.specs.Refusal.{Outcome, refused, done, require, ◌>>=◌}
use Rattle.definitions.specs.Matrix.{max_rows, max_entries}
use Rattle.definitions.specs.Groups.{Grouping, grouping_call, graph_grouping, listed, no_anchor, max_group}
use Rattle.definitions.specs.Text.{is_blank, is_digit, trimmed, is_none, Read, Listing, digits, first, number, neighbours_from, nodes_from, text_grouping}
use Rattle.definitions.specs.declared.Refusal.{Refusal}
use Rattle.definitions.specs.declared.Refusal.TheVariants.{TooLarge, GroupSize, NeighbourOffsets, NoNode, NeighbourOutside, ListTooShort}
use Rattle.laws.proofs.Tests.{both_true}
use Rattle.grouping_text.specs.Numbers.{cap, grown_by, Spelling, ended, behind, spelt, listing, node_from, lists_from, Asked, asked_in, answered}

pub split {ℓ} : {X : Type ℓ} (b : Bool) → (b ≡ true → X) → (b ≡ false → X) → X
split true t f = t refl
split false t f = f refl

cap_small : (n : ℕ) → n ≤ 4_294_967_295 → cap n ≡ n
unfolding cap
cap_small n h = omega arith

cap_large : (n : ℕ) → 4_294_967_295 ≤ n → cap n ≡ 4_294_967_295
unfolding cap
cap_large n h = omega arith

cap_step : (n d : ℕ) → cap (cap n * 10 + d) ≡ cap (n * 10 + d)
unfolding cap
cap_step n d = omega arith

digit_not_blank : (b : ℕ) → is_digit b ≡ true → is_blank b ≡ false
unfolding is_digit is_blank
digit_not_blank b e =
    let p = both_true (leb 48 b) (leb b 57) e in
    let h : 48 ≤ b = leb-true 48 b p.0 in
    rw (ne_eqb b 32 (λ q. omega (arith, q)), ne_eqb b 9 (λ q. omega (arith, q)), ne_eqb b 10 (λ q. omega (arith, q)), ne_eqb b 13 (λ q. omega (arith, q)))

-- ---- one number

abbrev spells : List ℕ → Spelling
spells text = spelt None text

-- what the text spells where reading a number from it has an outcome
abbrev Spells : Outcome Read → Spelling → Type 0
Spells (refused r) t = (r ≡ NeighbourOffsets) × (t.numbers ≡ [])
Spells (done x) t = t ≡ behind (cap x.number ∷ []) (spells x.rest)

-- a text one byte further
module _ (n : Option ℕ) (b : ℕ) (bs : List ℕ) where
  pub spelt_digit : is_digit b ≡ true → spelt n (b ∷ bs) ≡ spelt (Some (grown_by b n)) bs
  unfolding spelt
  spelt_digit e = rw (spelt, e)

  pub spelt_blank : is_digit b ≡ false → is_blank b ≡ true → spelt n (b ∷ bs) ≡ behind (ended n) (spells bs)
  unfolding spelt
  spelt_blank e f = rw (spelt, e, f)

  pub spelt_other : is_digit b ≡ false → is_blank b ≡ false → spelt n (b ∷ bs) ≡ record { numbers = []; whole = false }
  unfolding spelt
  spelt_other e f = rw (spelt, e, f)

digits_digit : (n b : ℕ) (bs : List ℕ) → is_digit b ≡ true → digits n (b ∷ bs) ≡ digits (n * 10 + (b - 48)) bs
unfolding digits
digits_digit n b bs e = rw (digits, e)

digits_blank : (n b : ℕ) (bs : List ℕ) → is_digit b ≡ false → is_blank b ≡ true → digits n (b ∷ bs) ≡ done (record { number = n; rest = bs })
unfolding digits
digits_blank n b bs e f = rw (digits, e, f)

digits_other : (n b : ℕ) (bs : List ℕ) → is_digit b ≡ false → is_blank b ≡ false → digits n (b ∷ bs) ≡ refused NeighbourOffsets
unfolding digits
digits_other n b bs e f = rw (digits, e, f)

digits_agree : (n : ℕ) (bs : List ℕ) → Spells (digits n bs) (spelt (Some (cap n)) bs)
unfolding digits spelt ended behind
digits_agree n [] = refl
digits_agree n (b ∷ bs) = split (is_digit b)
    (λ e. rw (digits_digit n b bs e, spelt_digit (Some (cap n)) b bs e, cap_step n (b - 48)) (digits_agree (n * 10 + (b - 48)) bs))
    (λ e. split (is_blank b)
    (λ f. rw (digits_blank n b bs e f) (spelt_blank (Some (cap n)) b bs e f))
    (λ f. rw (digits_other n b bs e f) (refl, ap (λ t. t.numbers) (spelt_other (Some (cap n)) b bs e f))))

number_blank : (b : ℕ) (bs : List ℕ) → is_blank b ≡ true → number (b ∷ bs) ≡ number bs
unfolding number trimmed
number_blank b bs e = rw (trimmed, e)

number_digit : (b : ℕ) (bs : List ℕ) → is_blank b ≡ false → is_digit b ≡ true → number (b ∷ bs) ≡ digits 0 (b ∷ bs)
unfolding number trimmed first
number_digit b bs e f = rw (trimmed, e, first, f)

number_other : (b : ℕ) (bs : List ℕ) → is_blank b ≡ false → is_digit b ≡ false → number (b ∷ bs) ≡ refused NeighbourOffsets
unfolding number trimmed first
number_other b bs e f = rw (trimmed, e, first, f)

blank_not_digit : (b : ℕ) → is_blank b ≡ true → is_digit b ≡ false
blank_not_digit b e = split (is_digit b) (λ d. absurd (true≢false (sym e ∙ digit_not_blank b d))) (λ d. d)

number_agree : (text : List ℕ) → Spells (number text) (spells text)
unfolding number trimmed first spelt ended behind
number_agree [] = (refl, refl)
number_agree (b ∷ bs) = split (is_blank b)
    (λ e. rw (number_blank b bs e, spelt_blank None b bs (blank_not_digit b e) e) (number_agree bs))
    (λ e. split (is_digit b)
    (λ d. rw (number_digit b bs e d, spelt_digit None b bs d) (rw (spelt_digit (Some (cap 0)) b bs d, cap_step 0 (b - 48)) at (digits_agree 0 (b ∷ bs))))
    (λ d. rw (number_other b bs e d) (refl, ap (λ t. t.numbers) (spelt_other None b bs d e))))

-- reading a number, by cases
read_cases {ℓ} : {X : Type ℓ} (text : List ℕ) → (number text ≡ refused NeighbourOffsets → (spells text).numbers ≡ [] → X) → ((x : Read) → number text ≡ done x → spells text ≡ behind (cap x.number ∷ []) (spells x.rest) → X) → X
read_cases {X = X} text f g = go (number text) refl (number_agree text)
  where
    go : (o : Outcome Read) → number text ≡ o → Spells (number text) (spells text) → X
    go (refused r) e a = let p : Spells (refused r) (spells text) = rw e at a in f (e ∙ ap refused p.0) p.1
    go (done x) e a = let p : Spells (done x) (spells text) = rw e at a in g x e p

-- ---- the end of the text

-- a number that has begun ends, or the text is not whole
inside_some : (n : ℕ) (bs : List ℕ) → (is_none (spelt (Some n) bs).numbers && (spelt (Some n) bs).whole) ≡ false
unfolding is_none spelt ended behind
inside_some n [] = refl
inside_some n (b ∷ bs) = split (is_digit b)
    (λ d. rw (spelt_digit (Some n) b bs d) (inside_some (cap (n * 10 + (b - 48))) bs))
    (λ d. split (is_blank b)
    (λ e. rw (spelt_blank (Some n) b bs d e) refl)
    (λ e. rw (spelt_other (Some n) b bs d e) refl))

end_blank : (b : ℕ) (bs : List ℕ) → is_blank b ≡ true → is_none (trimmed (b ∷ bs)) ≡ is_none (trimmed bs)
unfolding trimmed
end_blank b bs e = rw (trimmed, e)

end_other : (b : ℕ) (bs : List ℕ) → is_blank b ≡ false → is_none (trimmed (b ∷ bs)) ≡ false
unfolding trimmed is_none
end_other b bs e = rw (trimmed, e)

end_agrees : (text : List ℕ) → (is_none (spells text).numbers && (spells text).whole) ≡ is_none (trimmed text)
unfolding is_none trimmed spelt ended behind
end_agrees [] = refl
end_agrees (b ∷ bs) = split (is_blank b)
    (λ e. rw (end_blank b bs e, spelt_blank None b bs (blank_not_digit b e) e) (end_agrees bs))
    (λ e. rw (end_other b bs e) (split (is_digit b)
    (λ d. rw (spelt_digit None b bs d) (inside_some (cap (0 * 10 + (b - 48))) bs))
    (λ d. rw (spelt_other None b bs d e) refl)))

-- ---- one node

-- k numbers further
abbrev passed : ℕ → Spelling → Spelling
passed k t = record { numbers = drop k t.numbers; whole = t.whole }

record Named (k : ℕ) (g h : Listing) : Type 0 where
  offs : h.offsets ≡ g.offsets
  names : map cap h.neighbours ≡ map cap g.neighbours ++ take k (spells g.rest).numbers
  left : spells h.rest ≡ passed k (spells g.rest)
  enough : k ≤ length (spells g.rest).numbers

abbrev Names : ℕ → Listing → Outcome Listing → Type 0
Names k g (refused r) = (r ≡ NeighbourOffsets) × (length (spells g.rest).numbers < k)
Names k g (done h) = Named k g h

name_next : (k : ℕ) (g : Listing) (x : Read) → number g.rest ≡ done x → neighbours_from (suc k) g ≡ neighbours_from k (listing g.offsets (g.neighbours ++ (x.number ∷ [])) x.rest)
unfolding neighbours_from ◌>>=◌
name_next k g x e = rw (neighbours_from, e)

name_none : (k : ℕ) (g : Listing) (r : Refusal) → number g.rest ≡ refused r → neighbours_from (suc k) g ≡ refused r
unfolding neighbours_from ◌>>=◌
name_none k g r e = rw (neighbours_from, e)

module _ (k : ℕ) (g : Listing) (x : Read) (t : spells g.rest ≡ behind (cap x.number ∷ []) (spells x.rest)) where
  further : Listing
  further = listing g.offsets (g.neighbours ++ (x.number ∷ [])) x.rest

  named_on : (o : Outcome Listing) → Names k further o → Names (suc k) g o
  unfolding further behind
  named_on (refused r) p = (p.0, rw t (omega (arith, p.1)))
  named_on (done h) p = record {
    offs = p.offs;
    names = p.names ∙ rw (t, map-append cap g.neighbours (x.number ∷ [])) (append_snoc (map cap g.neighbours) (cap x.number) (take k (spells x.rest).numbers));
    left = p.left ∙ rw t refl;
    enough = rw t (omega (arith, p.enough));
  }

neighbours_agree : (k : ℕ) (g : Listing) → Names k g (neighbours_from k g)
unfolding neighbours_from further
neighbours_agree zero g = record { offs = refl; names = sym (append-nil (map cap g.neighbours)); left = refl; enough = omega arith }
neighbours_agree (suc k) g = read_cases g.rest
    (λ e n. rw (name_none k g NeighbourOffsets e) (refl, rw n (omega arith)))
    (λ x e t. rw (name_next k g x e) (named_on k g x t (neighbours_from k (further k g x t)) (neighbours_agree k (further k g x t))))

-- reading a node's neighbours, by cases
names_cases {ℓ} : {X : Type ℓ} (k : ℕ) (g : Listing) → (neighbours_from k g ≡ refused NeighbourOffsets → length (spells g.rest).numbers < k → X) → ((h : Listing) → neighbours_from k g ≡ done h → Named k g h → X) → X
names_cases {X = X} k g f d = go (neighbours_from k g) refl (neighbours_agree k g)
  where
    go : (o : Outcome Listing) → neighbours_from k g ≡ o → Names k g (neighbours_from k g) → X
    go (refused r) e a = let p : Names k g (refused r) = rw e at a in f (e ∙ ap refused p.0) p.1
    go (done h) e a = let p : Names k g (done h) = rw e at a in d h e p

-- ---- all nodes

-- the lists with capped neighbours, and the numbers that the text behind them spells
spelled : Listing → Listing
spelled g = listing g.offsets (map cap g.neighbours) (spells g.rest).numbers

test_agrees : (nb : List ℕ) (x : ℕ) → leb (length (map cap nb) + cap x) 2048 ≡ leb (length nb + x) 2048
unfolding cap
test_agrees nb x = split (leb (length nb + x) 2048)
    (λ e. rw e (le-leb (length (map cap nb) + cap x) 2048 (omega (arith, length-map nb cap, leb-true (length nb + x) 2048 e))))
    (λ e. rw e (lt-leb (length (map cap nb) + cap x) 2048 (omega (arith, length-map nb cap, leb-false (length nb + x) 2048 e))))

after : Listing → Listing
after h = listing (h.offsets ++ (length h.neighbours ∷ [])) h.neighbours h.rest

module _ (left : ℕ) (g : Listing) where
  from_none : number g.rest ≡ refused NeighbourOffsets → nodes_from (suc left) g ≡ refused NeighbourOffsets
  unfolding nodes_from ◌>>=◌
  from_none e = rw (nodes_from, e)

  module _ (x : Read) (e : number g.rest ≡ done x) where
    from_large : leb (length g.neighbours + x.number) 2048 ≡ false → nodes_from (suc left) g ≡ refused TooLarge
    unfolding nodes_from require ◌>>=◌
    from_large t = rw (nodes_from, e, t)

    from_short : leb (length g.neighbours + x.number) 2048 ≡ true → neighbours_from x.number (listing g.offsets g.neighbours x.rest) ≡ refused NeighbourOffsets → nodes_from (suc left) g ≡ refused NeighbourOffsets
    unfolding nodes_from require ◌>>=◌
    from_short t n = rw (nodes_from, e, t, n)

    from_done : (h : Listing) → leb (length g.neighbours + x.number) 2048 ≡ true → neighbours_from x.number (listing g.offsets g.neighbours x.rest) ≡ done h → nodes_from (suc left) g ≡ nodes_from left (after h)
    unfolding nodes_from after require ◌>>=◌
    from_done h t n = rw (nodes_from, e, t, n)

-- the same of numbers
module _ (offsets neighbours : List ℕ) (x : ℕ) (rest : List ℕ) where
  pub node_large : leb (length neighbours + x) 2048 ≡ false → node_from offsets neighbours (x ∷ rest) ≡ refused TooLarge
  unfolding node_from require ◌>>=◌
  node_large t = rw (node_from, t)

  pub node_short : leb (length neighbours + x) 2048 ≡ true → leb x (length rest) ≡ false → node_from offsets neighbours (x ∷ rest) ≡ refused NeighbourOffsets
  unfolding node_from require ◌>>=◌
  node_short t u = rw (node_from, t, u)

  pub node_done : leb (length neighbours + x) 2048 ≡ true → leb x (length rest) ≡ true → node_from offsets neighbours (x ∷ rest) ≡ done (listing (offsets ++ ((length neighbours + x) ∷ [])) (neighbours ++ take x rest) (drop x rest))
  unfolding node_from require ◌>>=◌
  node_done t u = rw (node_from, t, u)

pub node_none : (offsets neighbours : List ℕ) → node_from offsets neighbours [] ≡ refused NeighbourOffsets
unfolding node_from
node_none offsets neighbours = refl

pub lists_refused : (left : ℕ) (g : Listing) (r : Refusal) → node_from g.offsets g.neighbours g.rest ≡ refused r → lists_from (suc left) g ≡ refused r
unfolding lists_from ◌>>=◌
lists_refused left g r e = rw (lists_from, e)

pub lists_next : (left : ℕ) (g h : Listing) → node_from g.offsets g.neighbours g.rest ≡ done h → lists_from (suc left) g ≡ lists_from left h
unfolding lists_from ◌>>=◌
lists_next left g h e = rw (lists_from, e)

pub lists_end : (g : Listing) → lists_from 0 g ≡ done g
unfolding lists_from
lists_end g = refl

abbrev Lists : ℕ → Listing → Outcome Listing → Type 0
Lists left g (refused r) = lists_from left (spelled g) ≡ refused r
Lists left g (done h) = (lists_from left (spelled g) ≡ done (spelled h)) × ((spells h.rest).whole ≡ (spells g.rest).whole)

-- one node of the text, and of its numbers
module _ (g : Listing) (x : Read) (t : spells g.rest ≡ behind (cap x.number ∷ []) (spells x.rest)) where
  numbers_are : (spells g.rest).numbers ≡ cap x.number ∷ (spells x.rest).numbers
  unfolding behind
  numbers_are = ap (λ s. s.numbers) t

  one_large : leb (length g.neighbours + x.number) 2048 ≡ false → node_from (spelled g).offsets (spelled g).neighbours (spelled g).rest ≡ refused TooLarge
  unfolding spelled
  one_large e = rw numbers_are (node_large g.offsets (map cap g.neighbours) (cap x.number) (spells x.rest).numbers (test_agrees g.neighbours x.number ∙ e))

  module _ (e : leb (length g.neighbours + x.number) 2048 ≡ true) where
    fits : length g.neighbours + x.number ≤ 2048
    fits = leb-true (length g.neighbours + x.number) 2048 e

    small : cap x.number ≡ x.number
    small = cap_small x.number (omega (arith, fits))

    test : leb (length (map cap g.neighbours) + x.number) 2048 ≡ true
    test = le-leb (length (map cap g.neighbours) + x.number) 2048 (omega (arith, fits, length-map g.neighbours cap))

    one_short : length (spells x.rest).numbers < x.number → node_from (spelled g).offsets (spelled g).neighbours (spelled g).rest ≡ refused NeighbourOffsets
    unfolding spelled
    one_short n = rw (numbers_are, small) (node_short g.offsets (map cap g.neighbours) x.number (spells x.rest).numbers test (lt-leb x.number (length (spells x.rest).numbers) n))

    one_done : (h : Listing) → Named x.number (listing g.offsets g.neighbours x.rest) h → node_from (spelled g).offsets (spelled g).neighbours (spelled g).rest ≡ done (spelled (after h))
    unfolding spelled after
    one_done h p =
        let ns = (spells x.rest).numbers in
        let m = map cap g.neighbours ++ take x.number ns in
        let l : length h.neighbours ≡ length (map cap g.neighbours) + x.number = sym (length-map h.neighbours cap) ∙ ap length p.names ∙ length-append (map cap g.neighbours) (take x.number ns) ∙ ap (λ k. length (map cap g.neighbours) + k) (length-take-le x.number ns p.enough) in
        rw (numbers_are, small) (node_done g.offsets (map cap g.neighbours) x.number ns test (le-leb x.number (length ns) p.enough)
        ∙ rw (l, p.offs, p.names, ap (λ s. s.numbers) p.left) refl)

none_spelt : (g : Listing) → (spells g.rest).numbers ≡ [] → node_from (spelled g).offsets (spelled g).neighbours (spelled g).rest ≡ refused NeighbourOffsets
unfolding spelled
none_spelt g n = rw n (node_none g.offsets (map cap g.neighbours))

whole_is : (g : Listing) (x : Read) → spells g.rest ≡ behind (cap x.number ∷ []) (spells x.rest) → (spells g.rest).whole ≡ (spells x.rest).whole
unfolding behind
whole_is g x t = ap (λ s. s.whole) t

onward : (left : ℕ) (g h : Listing) → node_from (spelled g).offsets (spelled g).neighbours (spelled g).rest ≡ done (spelled (after h)) → (spells h.rest).whole ≡ (spells g.rest).whole → (o : Outcome Listing) → Lists left (after h) o → Lists (suc left) g o
unfolding after
onward left g h e w (refused r) a = lists_next left (spelled g) (spelled (after h)) e ∙ a
onward left g h e w (done k) a = (lists_next left (spelled g) (spelled (after h)) e ∙ a.0, a.1 ∙ w)

nodes_agree : (left : ℕ) (g : Listing) → Lists left g (nodes_from left g)
unfolding nodes_from lists_from
nodes_agree zero g = (refl, refl)
nodes_agree (suc left) g = read_cases g.rest
    (λ e n. rw (from_none left g e) (lists_refused left (spelled g) NeighbourOffsets (none_spelt g n)))
    (λ x e t. split (leb (length g.neighbours + x.number) 2048)
    (λ u. names_cases x.number (listing g.offsets g.neighbours x.rest)
    (λ n s. rw (from_short left g x e u n) (lists_refused left (spelled g) NeighbourOffsets (one_short g x t u s)))
    (λ h n p. rw (from_done left g x e h u n) (onward left g h (one_done g x t u h p) (ap (λ s. s.whole) p.left ∙ sym (whole_is g x t)) (nodes_from left (after h)) (nodes_agree left (after h)))))
    (λ u. rw (from_large left g x e u) (lists_refused left (spelled g) TooLarge (one_large g x t u))))

-- a call with capped numbers is answered alike
any_capped : (n : ℕ) (nb : List ℕ) → n ≤ 256 → any (λ w. leb n w) (map cap nb) ≡ any (λ w. leb n w) nb
unfolding any cap
any_capped n [] h = refl
any_capped n (x ∷ nb) h = rw (any, one, any_capped n nb h)
  where
    one : leb n (cap x) ≡ leb n x
    one = split (leb n x)
        (λ e. rw e (le-leb n (cap x) (omega (arith, leb-true n x e))))
        (λ e. rw e (lt-leb n (cap x) (omega (arith, leb-false n x e))))

all_small : (n : ℕ) (nb : List ℕ) → n ≤ 256 → any (λ w. leb n w) nb ≡ false → map cap nb ≡ nb
unfolding any
all_small n [] h e = refl
all_small n (x ∷ nb) h e = split (leb n x)
    (λ t. absurd (yes t))
    (λ t. rw (cap_small x (omega (arith, leb-false n x t)), all_small n nb h (rw (any, t) at e)))
  where
    yes : leb n x ≡ true → ⊥
    yes t = let z : true ≡ false = rw (any, t) at e in true≢false z

size_agrees : (s : ℕ) → (leb 1 (cap s) && leb (cap s) max_group) ≡ (leb 1 s && leb s max_group)
unfolding cap
size_agrees s = split (leb s 4_294_967_295)
    (λ e. rw (cap_small s (leb-true s 4_294_967_295 e)) refl)
    (λ e. rw (cap_large s (omega (arith, leb-false s 4_294_967_295 e)), le-leb 1 s (omega (arith, leb-false s 4_294_967_295 e)), lt-leb s max_group (omega (arith, leb-false s 4_294_967_295 e))) refl)

-- six tests in a row, then a result
unfoldable pub ordered : Bool → Bool → Bool → Bool → Bool → Bool → Grouping → Outcome Grouping
ordered a b c d e f g = do
  _ ← require a TooLarge
  _ ← require b GroupSize
  _ ← require c NeighbourOffsets
  _ ← require d NoNode
  _ ← require e NeighbourOutside
  _ ← require f ListTooShort
  done g

-- the result matters only where the second test and the fifth hold
ordered_alike : (a b c d e f : Bool) (g h : Grouping) → (b ≡ true → e ≡ true → g ≡ h) → ordered a b c d e f g ≡ ordered a b c d e f h
unfolding ordered require ◌>>=◌
ordered_alike true true true true true true g h p = ap done (p refl refl)
ordered_alike true true true true true false g h p = refl
ordered_alike true true true true false f g h p = refl
ordered_alike true true true false e f g h p = refl
ordered_alike true true false d e f g h p = refl
ordered_alike true false c d e f g h p = refl
ordered_alike false b c d e f g h p = refl

module _ (n s : ℕ) (offsets nb : List ℕ) (room work : ℕ) where
  pub call_is : grouping_call n s offsets nb room work ≡ ordered (leb n max_rows && leb (length nb) max_entries) (leb 1 s && leb s max_group)
      (eqb (length offsets) (n + 1) && eqb (get_or offsets 0 1) 0 && not (falls offsets) && eqb (get_or offsets n 0) (length nb)) (ltb 0 n)
      (not (any (λ w. leb n w) nb)) (leb n room && leb (8 * n + 4 * length nb + 16) work) (graph_grouping (listed offsets nb) no_anchor n s)
  unfolding grouping_call ordered
  call_is = refl

call_agrees : (n s : ℕ) (offsets nb : List ℕ) (room work : ℕ) → n ≤ 256 → grouping_call n (cap s) offsets (map cap nb) room work ≡ grouping_call n s offsets nb room work
call_agrees n s offsets nb room work h =
    call_is n (cap s) offsets (map cap nb) room work
    ∙ rw (length-map nb cap, size_agrees s, any_capped n nb h) (ordered_alike (leb n max_rows && leb (length nb) max_entries) (leb 1 s && leb s max_group)
    (eqb (length offsets) (n + 1) && eqb (get_or offsets 0 1) 0 && not (falls offsets) && eqb (get_or offsets n 0) (length nb)) (ltb 0 n)
    (not (any (λ w. leb n w) nb)) (leb n room && leb (8 * n + 4 * length nb + 16) work)
    (graph_grouping (listed offsets (map cap nb)) no_anchor n (cap s)) (graph_grouping (listed offsets nb) no_anchor n s)
    (λ b e. rw (all_small n nb h (not-true (any (λ w. leb n w) nb) e), cap_small s (omega (arith, leb-true s max_group (both_true (leb 1 s) (leb s max_group) b).1))) refl))
    ∙ sym (call_is n s offsets nb room work)

-- ---- the whole text

abbrev pub start : List ℕ → Listing
start rest = listing (0 ∷ []) [] rest

nodes_cases {ℓ} : {X : Type ℓ} (k : ℕ) (rest : List ℕ) → ((r : Refusal) → nodes_from k (start rest) ≡ refused r → lists_from k (start (spells rest).numbers) ≡ refused r → X)
    → ((h : Listing) → nodes_from k (start rest) ≡ done h → lists_from k (start (spells rest).numbers) ≡ done (spelled h) → (spells h.rest).whole ≡ (spells rest).whole → X) → X
unfolding spelled
nodes_cases {X = X} k rest f d = go (nodes_from k (start rest)) refl (nodes_agree k (start rest))
  where
    go : (o : Outcome Listing) → nodes_from k (start rest) ≡ o → Lists k (start rest) (nodes_from k (start rest)) → X
    go (refused r) e a = let p : Lists k (start rest) (refused r) = rw e at a in f r e p
    go (done h) e a = let p : Lists k (start rest) (done h) = rw e at a in d h e p.0 p.1

-- a text, step by step
module _ (text : List ℕ) where
  t_1 : (r : Refusal) → number text ≡ refused r → text_grouping text ≡ refused r
  unfolding text_grouping ◌>>=◌
  t_1 r a = rw (text_grouping, a)

  t_2 : (n : Read) → number text ≡ done n → leb n.number 256 ≡ false → text_grouping text ≡ refused TooLarge
  unfolding text_grouping require ◌>>=◌
  t_2 n a b = rw (text_grouping, a, b)

  t_3 : (n : Read) (r : Refusal) → number text ≡ done n → leb n.number 256 ≡ true → number n.rest ≡ refused r → text_grouping text ≡ refused r
  unfolding text_grouping require ◌>>=◌
  t_3 n r a b c = rw (text_grouping, a, b, c)

  t_4 : (n s : Read) (r : Refusal) → number text ≡ done n → leb n.number 256 ≡ true → number n.rest ≡ done s → nodes_from n.number (start s.rest) ≡ refused r → text_grouping text ≡ refused r
  unfolding text_grouping require ◌>>=◌
  t_4 n s r a b c d = rw (text_grouping, a, b, c, d)

  t_5 : (n s : Read) (h : Listing) → number text ≡ done n → leb n.number 256 ≡ true → number n.rest ≡ done s → nodes_from n.number (start s.rest) ≡ done h → is_none (trimmed h.rest) ≡ false → text_grouping text ≡ refused NeighbourOffsets
  unfolding text_grouping require ◌>>=◌
  t_5 n s h a b c d e = rw (text_grouping, a, b, c, d, e)

  t_6 : (n s : Read) (h : Listing) → number text ≡ done n → leb n.number 256 ≡ true → number n.rest ≡ done s → nodes_from n.number (start s.rest) ≡ done h → is_none (trimmed h.rest) ≡ true →
      text_grouping text ≡ grouping_call n.number s.number h.offsets h.neighbours n.number (8 * n.number + 4 * length h.neighbours + 16)
  unfolding text_grouping require ◌>>=◌
  t_6 n s h a b c d e = rw (text_grouping, a, b, c, d, e)

-- its numbers, step by step
module _ (whole : Bool) where
  pub a_1 : asked_in [] whole ≡ refused NeighbourOffsets
  unfolding asked_in
  a_1 = refl

  module _ (n : ℕ) where
    pub a_2 : (rest : List ℕ) → leb n 256 ≡ false → asked_in (n ∷ rest) whole ≡ refused TooLarge
    unfolding asked_in require ◌>>=◌
    a_2 [] b = rw (asked_in, b)
    a_2 (s ∷ rest) b = rw (asked_in, b)

    module _ (b : leb n 256 ≡ true) where
      pub a_3 : asked_in (n ∷ []) whole ≡ refused NeighbourOffsets
      unfolding asked_in require ◌>>=◌
      a_3 = rw (asked_in, b)

      module _ (s : ℕ) (rest : List ℕ) where
        pub a_4 : (r : Refusal) → lists_from n (start rest) ≡ refused r → asked_in (n ∷ s ∷ rest) whole ≡ refused r
        unfolding asked_in require ◌>>=◌
        a_4 r c = rw (asked_in, b, c)

        pub a_5 : (h : Listing) → lists_from n (start rest) ≡ done h → (is_none h.rest && whole) ≡ false → asked_in (n ∷ s ∷ rest) whole ≡ refused NeighbourOffsets
        unfolding asked_in require ◌>>=◌
        a_5 h c d = rw (asked_in, b, c, d)

        pub a_6 : (h : Listing) → lists_from n (start rest) ≡ done h → (is_none h.rest && whole) ≡ true → asked_in (n ∷ s ∷ rest) whole ≡ done (record { nodes = n; size = s; offsets = h.offsets; neighbours = h.neighbours })
        unfolding asked_in require ◌>>=◌
        a_6 h c d = rw (asked_in, b, c, d)

both_refused : (o : Outcome Asked) (t : Outcome Grouping) (r : Refusal) → o ≡ refused r → t ≡ refused r → answered o ≡ t
unfolding answered
both_refused o t r a b = rw (a, b)

cap_256 : (n : ℕ) → leb (cap n) 256 ≡ leb n 256
unfolding cap
cap_256 n = split (leb n 256)
    (λ e. rw e (le-leb (cap n) 256 (omega (arith, leb-true n 256 e))))
    (λ e. rw e (lt-leb (cap n) 256 (omega (arith, leb-false n 256 e))))

answered_call : (o : Outcome Asked) (n s : ℕ) (offsets nb : List ℕ) → n ≤ 256 → o ≡ done (record { nodes = n; size = cap s; offsets = offsets; neighbours = map cap nb }) → answered o ≡ grouping_call n s offsets nb n (8 * n + 4 * length nb + 16)
unfolding answered
answered_call o n s offsets nb h e = rw e (ap (λ k. grouping_call n (cap s) offsets (map cap nb) n (8 * n + 4 * k + 16)) (length-map nb cap) ∙ call_agrees n s offsets nb n (8 * n + 4 * length nb + 16) h)

-- EVERY TEXT IS ANSWERED AS ITS NUMBERS ARE
pub text_agrees : (text : List ℕ) → answered (asked_in (spells text).numbers (spells text).whole) ≡ text_grouping text
unfolding behind spelled
text_agrees text = read_cases text
    (λ e c. both_refused (asked_in (spells text).numbers (spells text).whole) (text_grouping text) NeighbourOffsets (rw c (a_1 (spells text).whole)) (t_1 text NeighbourOffsets e))
    (λ n e c. rw c (split (leb n.number 256)
    (λ t.
    let small : cap n.number ≡ n.number = cap_small n.number (omega (arith, leb-true n.number 256 t)) in
    rw small (read_cases n.rest
    (λ e₂ c₂. both_refused (asked_in (n.number ∷ (spells n.rest).numbers) (spells n.rest).whole) (text_grouping text) NeighbourOffsets (rw c₂ (a_3 (spells n.rest).whole n.number t)) (t_3 text n NeighbourOffsets e t e₂))
    (λ s e₂ c₂. rw c₂ (
    let w = (spells s.rest).whole in
    let ns = (spells s.rest).numbers in
    let o = asked_in (n.number ∷ cap s.number ∷ ns) w in
    nodes_cases n.number s.rest
    (λ r e₃ c₃. both_refused o (text_grouping text) r (a_4 w n.number t (cap s.number) ns r c₃) (t_4 text n s r e t e₂ e₃))
    (λ h e₃ c₃ p.
    let q : (is_none (spells h.rest).numbers && w) ≡ is_none (trimmed h.rest) = ap (λ k. is_none (spells h.rest).numbers && k) (sym p) ∙ end_agrees h.rest in
    split (is_none (trimmed h.rest))
    (λ l. answered_call o n.number s.number h.offsets h.neighbours (leb-true n.number 256 t) (a_6 w n.number t (cap s.number) ns (spelled h) c₃ (q ∙ l)) ∙ sym (t_6 text n s h e t e₂ e₃ l))
    (λ l. both_refused o (text_grouping text) NeighbourOffsets (a_5 w n.number t (cap s.number) ns (spelled h) c₃ (q ∙ l)) (t_5 text n s h e t e₂ e₃ l)))))))
    (λ t. both_refused (asked_in (cap n.number ∷ (spells n.rest).numbers) (spells n.rest).whole) (text_grouping text) TooLarge (a_2 (spells n.rest).whole (cap n.number) (spells n.rest).numbers (cap_256 n.number ∙ t)) (t_2 text n e t))))
