-- Numbers by first appearance, one number further: what the numbers seen so far give the next one.
use mathlib.Core.Path.{◌≡◌, refl, ap, sym, subst, ◌∙◌}
use mathlib.Core.Bool.{Bool, true, false, true≢false}
use mathlib.Core.List.{List, [], ◌∷◌, ◌++◌, map}
use Prim.Native.Nat.{ℕ, zero, suc, ◌-◌, ◌≤◌, ◌<◌}
use native.Mathlib.Omega.{arith}
use borrow.Author.Tests.{eq-eqb, ne_eqb, eqb-true, eqb-false}
use lib.Dec.{eqb}
use lib.ListN.{length, get_or, length-append}
use Rattle.definitions.specs.Lists.{any, tab, up_to}
use Rattle.definitions.specs.Groups.{place, firsts, renumbered}
use Rattle.laws.proofs.Growing.{up_to_snoc}
use Rattle.aggregates.proofs.Stops.{by_test}

abbrev pub has : ℕ → List ℕ → Bool
has x seen = any (λ y. eqb x y) seen

has_append : (x : ℕ) (s t : List ℕ) → has x s ≡ true → has x (s ++ t) ≡ true
unfolding any
has_append x [] t h = absurd (true≢false (sym h))
has_append x (y ∷ s) t h = by_test (eqb x y) (λ e. rw (any, e)) (λ e. rw (any, e) (has_append x s t (rw (any, e) at h)))

has_last : (x : ℕ) (s : List ℕ) → has x (s ++ (x ∷ [])) ≡ true
unfolding any
has_last x [] = rw (any, eq-eqb x x refl)
has_last x (y ∷ s) = by_test (eqb x y) (λ e. rw (any, e)) (λ e. rw (any, e) (has_last x s))

has_other : (x y : ℕ) (s : List ℕ) → (x ≡ y → ⊥) → has x (s ++ (y ∷ [])) ≡ has x s
unfolding any
has_other x y [] d = rw (any, ne_eqb x y d)
has_other x y (z ∷ s) d = by_test (eqb x z) (λ e. rw (any, e)) (λ e. rw (any, e) (has_other x y s d))

place_append : (x : ℕ) (s t : List ℕ) → has x s ≡ true → place x (s ++ t) ≡ place x s
unfolding any place
place_append x [] t h = absurd (true≢false (sym h))
place_append x (y ∷ s) t h = by_test (eqb x y) (λ e. rw (place, e)) (λ e. rw (place, e) (ap suc (place_append x s t (rw (any, e) at h))))

place_new : (x : ℕ) (s : List ℕ) → has x s ≡ false → place x (s ++ (x ∷ [])) ≡ length s
unfolding any place
place_new x [] h = rw (place, eq-eqb x x refl)
place_new x (y ∷ s) h = by_test (eqb x y)
    (λ e. absurd (true≢false (rw (any, e) at h)))
    (λ e. rw (place, e) (ap suc (place_new x s (rw (any, e) at h))))

module _ (seen : List ℕ) (x : ℕ) (xs : List ℕ) where
  pub firsts_old : has x seen ≡ true → firsts seen (x ∷ xs) ≡ firsts seen xs
  unfolding firsts
  firsts_old h = rw (firsts, h)

  pub firsts_new : has x seen ≡ false → firsts seen (x ∷ xs) ≡ firsts (seen ++ (x ∷ [])) xs
  unfolding firsts
  firsts_new h = rw (firsts, h)

place_kept : (x : ℕ) (seen xs : List ℕ) → has x seen ≡ true → place x (firsts seen xs) ≡ place x seen
unfolding firsts
place_kept x seen [] h = refl
place_kept x seen (y ∷ xs) h = by_test (has y seen)
    (λ e. rw (firsts_old seen y xs e) (place_kept x seen xs h))
    (λ e. rw (firsts_new seen y xs e) (place_kept x (seen ++ (y ∷ [])) xs (has_append x seen (y ∷ []) h) ∙ place_append x seen (y ∷ []) h))

-- the new numbers of a list, behind those seen already
unfoldable pub numbers_from : List ℕ → List ℕ → List ℕ
numbers_from seen [] = []
numbers_from seen (x ∷ xs) = elim (has x seen) [ true ↦ place x seen ∷ numbers_from seen xs | false ↦ length seen ∷ numbers_from (seen ++ (x ∷ [])) xs ]

module _ (seen : List ℕ) (x : ℕ) (xs : List ℕ) where
  pub numbers_old : has x seen ≡ true → numbers_from seen (x ∷ xs) ≡ place x seen ∷ numbers_from seen xs
  unfolding numbers_from
  numbers_old h = rw (numbers_from, h)

  pub numbers_new : has x seen ≡ false → numbers_from seen (x ∷ xs) ≡ length seen ∷ numbers_from (seen ++ (x ∷ [])) xs
  unfolding numbers_from
  numbers_new h = rw (numbers_from, h)

numbers_are : (seen xs : List ℕ) → map (λ x. place x (firsts seen xs)) xs ≡ numbers_from seen xs
unfolding numbers_from
numbers_are seen [] = refl
numbers_are seen (x ∷ xs) = by_test (has x seen)
    (λ e. subst (λ z. map (λ y. place y z) (x ∷ xs) ≡ numbers_from seen (x ∷ xs)) (sym (firsts_old seen x xs e)) (rw (numbers_old seen x xs e, place_kept x seen xs e) (ap (λ l. place x seen ∷ l) (numbers_are seen xs))))
    (λ e. subst (λ z. map (λ y. place y z) (x ∷ xs) ≡ numbers_from seen (x ∷ xs)) (sym (firsts_new seen x xs e)) (rw (numbers_new seen x xs e, place_kept x (seen ++ (x ∷ [])) xs (has_last x seen), place_new x seen e) (ap (λ l. length seen ∷ l) (numbers_are (seen ++ (x ∷ [])) xs))))

pub renumbered_ids : (ids : List ℕ) → (renumbered ids).ids ≡ numbers_from [] ids
unfolding renumbered
renumbered_ids ids = numbers_are [] ids

pub renumbered_count : (ids : List ℕ) → (renumbered ids).count ≡ length (firsts [] ids)
unfolding renumbered
renumbered_count ids = refl

-- what the table has for x: its new number and one, or 0
unfoldable pub mark : ℕ → List ℕ → ℕ
mark x seen = elim (has x seen) [ true ↦ suc (place x seen) | false ↦ 0 ]

mark_is : (x : ℕ) (seen : List ℕ) → has x seen ≡ true → mark x seen ≡ suc (place x seen)
unfolding mark
mark_is x seen h = rw (mark, h)

mark_none : (x : ℕ) (seen : List ℕ) → has x seen ≡ false → mark x seen ≡ 0
unfolding mark
mark_none x seen h = rw (mark, h)

pub mark_empty : (x : ℕ) → mark x [] ≡ 0
unfolding mark any
mark_empty x = refl

pub unmarked : (x : ℕ) (seen : List ℕ) → mark x seen ≡ 0 → has x seen ≡ false
unmarked x seen z = by_test (has x seen) (λ e. absurd (omega (arith, mark_is x seen e))) (λ e. e)

pub marked : (x : ℕ) (seen : List ℕ) → (mark x seen ≡ 0 → ⊥) → (has x seen ≡ true) × (mark x seen - 1 ≡ place x seen)
marked x seen z = by_test (has x seen) (λ e. (e, omega (arith, mark_is x seen e))) (λ e. absurd (z (mark_none x seen e)))

pub mark_new : (x : ℕ) (seen : List ℕ) → has x seen ≡ false → mark x (seen ++ (x ∷ [])) ≡ suc (length seen)
mark_new x seen h = mark_is x (seen ++ (x ∷ [])) (has_last x seen) ∙ ap suc (place_new x seen h)

pub mark_other : (x y : ℕ) (seen : List ℕ) → (x ≡ y → ⊥) → mark x (seen ++ (y ∷ [])) ≡ mark x seen
mark_other x y seen d = by_test (has x seen)
    (λ e. mark_is x (seen ++ (y ∷ [])) (has_other x y seen d ∙ e) ∙ ap suc (place_append x seen (y ∷ []) e) ∙ sym (mark_is x seen e))
    (λ e. mark_none x (seen ++ (y ∷ [])) (has_other x y seen d ∙ e) ∙ sym (mark_none x seen e))

-- ---- WHAT RENUMBERING GIVES

-- a number's place is within the list exactly where the list has it
place_below : (x : ℕ) (s : List ℕ) → has x s ≡ true → place x s < length s
unfolding any place
place_below x [] h = absurd (true≢false (sym h))
place_below x (y ∷ s) h = by_test (eqb x y) (λ e. rw (place, e) (omega arith)) (λ e. rw (place, e) (omega (arith, place_below x s (rw (any, e) at h))))

has_kept : (x : ℕ) (seen xs : List ℕ) → has x seen ≡ true → has x (firsts seen xs) ≡ true
unfolding firsts
has_kept x seen [] h = h
has_kept x seen (y ∷ xs) h = by_test (has y seen)
    (λ e. rw (firsts_old seen y xs e) (has_kept x seen xs h))
    (λ e. rw (firsts_new seen y xs e) (has_kept x (seen ++ (y ∷ [])) xs (has_append x seen (y ∷ []) h)))

has_each : (seen xs : List ℕ) (v : ℕ) → v < length xs → has (get_or xs v 0) (firsts seen xs) ≡ true
has_each seen [] v h = absurd (omega arith)
has_each seen (x ∷ xs) zero h = by_test (has x seen)
    (λ e. rw (firsts_old seen x xs e) (has_kept x seen xs e))
    (λ e. rw (firsts_new seen x xs e) (has_kept x (seen ++ (x ∷ [])) xs (has_last x seen)))
has_each seen (x ∷ xs) (suc v) h = by_test (has x seen)
    (λ e. rw (firsts_old seen x xs e) (has_each seen xs v (omega arith)))
    (λ e. rw (firsts_new seen x xs e) (has_each (seen ++ (x ∷ [])) xs v (omega arith)))

get_d_mapped : (f : ℕ → ℕ) (l : List ℕ) (v : ℕ) → v < length l → get_or (map f l) v 0 ≡ f (get_or l v 0)
get_d_mapped f [] v h = absurd (omega arith)
get_d_mapped f (x ∷ l) zero h = refl
get_d_mapped f (x ∷ l) (suc v) h = get_d_mapped f l v (omega arith)

-- EVERY NEW NUMBER IS BELOW THE COUNT
pub renumbered_below : (ids : List ℕ) (v : ℕ) → v < length ids → get_or (renumbered ids).ids v 0 < (renumbered ids).count
unfolding renumbered
renumbered_below ids v h = rw (get_d_mapped (λ x. place x (firsts [] ids)) ids v h) (place_below (get_or ids v 0) (firsts [] ids) (has_each [] ids v h))

has_up : (k n : ℕ) → k < n → has k (up_to n) ≡ true
has_up k zero h = absurd (omega arith)
has_up k (suc n) h = rw (up_to_snoc n) (by_test (eqb k n)
    (λ e. rw (eqb-true k n e) (has_last n (up_to n)))
    (λ e. has_append k (up_to n) (n ∷ []) (has_up k n (omega (arith, eqb-false k n e)))))

up_none : up_to 0 ≡ []
unfolding up_to tab
up_none = refl

has_none : (k : ℕ) → has k [] ≡ false
unfolding any
has_none k = refl

has_not : (k n : ℕ) → n ≤ k → has k (up_to n) ≡ false
has_not k zero h = rw up_none (has_none k)
has_not k (suc n) h = rw (up_to_snoc n) (has_other k n (up_to n) (λ e. omega arith) ∙ has_not k n (omega arith))

order_from : (seen xs : List ℕ) → firsts (up_to (length seen)) (numbers_from seen xs) ≡ up_to (length (firsts seen xs))
unfolding firsts numbers_from
order_from seen [] = refl
order_from seen (x ∷ xs) = by_test (has x seen)
    (λ e. rw (numbers_old seen x xs e, firsts_old seen x xs e, firsts_old (up_to (length seen)) (place x seen) (numbers_from seen xs) (has_up (place x seen) (length seen) (place_below x seen e))) (order_from seen xs))
    (λ e. rw (numbers_new seen x xs e, firsts_new seen x xs e, firsts_new (up_to (length seen)) (length seen) (numbers_from (seen ++ (x ∷ [])) xs) (has_not (length seen) (length seen) (omega arith)), ← up_to_snoc (length seen))
    (ap (λ n. firsts (up_to n) (numbers_from (seen ++ (x ∷ [])) xs)) (long e) ∙ order_from (seen ++ (x ∷ [])) xs))
  where
    long : has x seen ≡ false → suc (length seen) ≡ length (seen ++ (x ∷ []))
    long e = omega (arith, length-append seen (x ∷ []))

-- THE NEW NUMBERS APPEAR IN THE ORDER 0, 1, .., COUNT - 1
pub renumbered_order : (ids : List ℕ) → firsts [] (renumbered ids).ids ≡ up_to (renumbered ids).count
unfolding up_to tab
renumbered_order ids = rw (renumbered_ids ids, renumbered_count ids) (order_from [] ids)

has_source : (x : ℕ) (seen xs : List ℕ) → has x (firsts seen xs) ≡ true → has x seen ≡ false → has x xs ≡ true
unfolding any firsts
has_source x seen [] h n = absurd (true≢false (sym h ∙ n))
has_source x seen (y ∷ xs) h n = by_test (eqb x y)
    (λ e. rw (any, e))
    (λ e. rw (any, e) (by_test (has y seen)
    (λ f. has_source x seen xs (rw (firsts_old seen y xs f) at h) n)
    (λ f. has_source x (seen ++ (y ∷ [])) xs (rw (firsts_new seen y xs f) at h) (has_other x y seen (eqb-false x y e) ∙ n))))

-- EVERY NUMBER BELOW THE COUNT IS USED
pub renumbered_used : (ids : List ℕ) (k : ℕ) → k < (renumbered ids).count → any (λ y. eqb k y) (renumbered ids).ids ≡ true
unfolding any
renumbered_used ids k h = has_source k [] (renumbered ids).ids (rw (renumbered_order ids) (has_up k (renumbered ids).count h)) refl
