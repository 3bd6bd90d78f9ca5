-- The columns that are visited are all that a row names, or all there are.
use Prim.Native.Nat.{ℕ, zero, suc, ◌+◌, ◌<◌, ◌≤◌}
use mathlib.Core.Path.{◌≡◌, refl, ap, sym, ◌∙◌}
use mathlib.Core.Bool.{Bool, true, false}
use mathlib.Core.List.{List, [], ◌∷◌, ◌++◌}
use native.Mathlib.Omega.{arith}
use lib.Dec.{ltb, eqb}
use lib.ListN.{length, get_or, set, take, drop, length-set}
use lib.Seq.{slice, take-length, get_or-take, get_or-drop, length-slice}
use borrow.Author.Tests.{eqb-false, ne_eqb}
use Rattle.definitions.specs.Lists.{tab, up_to, keep, any}
use Rattle.laws.proofs.Growing.{tab_all}
use Rattle.laws.proofs.Kept.{keep_yes, keep_no, keep_nil}
use Rattle.laws.proofs.Tests.{both_false}
use Rattle.laws.specs.Bounds.{Below}
use Rattle.transfer.specs.Touched.{insert_once, named, Visited}
use Rattle.transfer.proofs.Steps.{insert_all, Spread, Gathered}
use Rattle.transfer.proofs.Spreading.{also, asc, insert_law, up_to_asc}

-- tests with the columns of a list added
abbrev pub also_all : List ℕ → (ℕ → Bool) → ℕ → Bool
also_all [] p = p
also_all (x ∷ xs) p = also_all xs (also x p)

pub insert_all_lem : (p : ℕ → Bool) (c : ℕ) (xs : List ℕ) → Below c xs → insert_all xs (keep p (up_to c)) ≡ keep (also_all xs p) (up_to c)
unfolding insert_all
insert_all_lem p c [] h = refl
insert_all_lem p c (x ∷ xs) h = ap (λ l. insert_all xs l) (insert_law p x c (h zero (omega arith))) ∙ insert_all_lem (also x p) c xs (λ k q. h (suc k) (omega arith))

keep_none : (xs : List ℕ) → keep (λ _. false) xs ≡ []
keep_none [] = keep_nil (λ _. false)
keep_none (x ∷ xs) = keep_no (λ _. false) x xs refl ∙ keep_none xs

keep_all : (xs : List ℕ) → keep (λ _. true) xs ≡ xs
keep_all [] = keep_nil (λ _. true)
keep_all (x ∷ xs) = keep_yes (λ _. true) x xs refl ∙ ap (λ l. x ∷ l) (keep_all xs)

pub single : (own c : ℕ) → own < c → own ∷ [] ≡ keep (also own (λ _. false)) (up_to c)
unfolding insert_once
single own c h = let e = insert_law (λ _. false) own c h in rw (keep_none (up_to c)) at e

pub single_spread : (own c : ℕ) → own < c → Spread (own ∷ []) c
single_spread own c h = record { test = also own (λ _. false); is = single own c h }

eqb_swap : (a b : ℕ) → eqb a b ≡ false → eqb b a ≡ false
eqb_swap a b e = ne_eqb b a (λ q. eqb-false a b e (sym q))

all_miss : (xs : List ℕ) (p : ℕ → Bool) (j : ℕ) → also_all xs p j ≡ false → (p j ≡ false) × (any (λ x. eqb x j) xs ≡ false)
unfolding any
all_miss [] p j e = (e, refl)
all_miss (x ∷ xs) p j e =
    let r = all_miss xs (also x p) j e in
    let q = both_false (eqb j x) (p j) r.0 in
    (q.1, rw (eqb_swap j x q.0) r.1)

pub named_misses : (own : ℕ) (names : List ℕ) (j : ℕ) → also_all names (also own (λ _. false)) j ≡ false → any (λ x. eqb x j) (own ∷ names) ≡ false
unfolding any
named_misses own names j e =
    let s = all_miss names (also own (λ _. false)) j e in
    let q = both_false (eqb j own) false s.0 in
    rw (eqb_swap j own q.0) s.1

-- those alone that the row names
pub visited_named : (own c : ℕ) (names t : List ℕ) (r : ℕ) → own < c → Below c names → length t ≡ c → r ≤ c → Gathered t r (insert_all names (own ∷ [])) → Visited (own ∷ names) c t r
visited_named own c names t r h b l m g = record {
  test = also_all names (also own (λ _. false));
  front = g.front ∙ ap (insert_all names) (single own c h) ∙ insert_all_lem (also own (λ _. false)) c names b;
  room = omega arith;
  misses = named_misses own names;
}

-- every column
pub visited_all : (names : List ℕ) (c : ℕ) (t : List ℕ) → t ≡ up_to c → length t ≡ c → Visited names c t (length t)
visited_all names c t e l = record {
  test = λ _. true;
  front = take-length t ∙ e ∙ sym (keep_all (up_to c));
  room = omega arith;
  misses = λ j q. cc;
}

pub all_columns : (k c : ℕ) (t t₀ : List ℕ) → k ≡ length t₀ → length t₀ ≡ c → t ≡ tab (λ i. i) k ++ drop k t₀ → t ≡ up_to c
unfolding up_to
all_columns k c t t₀ e l h = rw (← l) (tab_all (λ i. i) k t t₀ e h)

-- the coarse columns of a matrix's columns
map_below : (column : ℕ → ℕ) (c : ℕ) (xs : List ℕ) → ((k : ℕ) → k < length xs → column (get_or xs k 0) < c) → Below c (named column xs)
map_below column c [] h k q = absurd (omega arith)
map_below column c (x ∷ xs) h zero q = h zero (omega arith)
map_below column c (x ∷ xs) h (suc k) q = map_below column c xs (λ i r. h (suc i) (omega arith)) k (omega arith)

pub named_below : (column : ℕ → ℕ) (cols c from to : ℕ) (idx : List ℕ) → Below cols idx → ((i : ℕ) → i < cols → column i < c) → to ≤ length idx → Below c (named column (slice from to idx))
named_below column cols c from to idx h g m = map_below column c (slice from to idx) (λ k q.
    let r : from + k < to = let z = length-slice from to idx m in omega arith in
    rw (get_or-drop from (take to idx) k 0, get_or-take to idx (from + k) 0 r) (g (get_or idx (from + k) 0) (h (from + k) (omega arith))))

pub take_one : (t : List ℕ) (own : ℕ) → 0 < length t → take 1 (set t 0 own) ≡ own ∷ []
take_one [] own h = absurd (omega arith)
take_one (x ∷ t) own h = refl

pub start_spread : (t : List ℕ) (own : ℕ) → own < length t → Spread (take 1 (set t 0 own)) (length (set t 0 own))
start_spread t own h = rw (length-set t 0 own, take_one t own (omega arith)) (single_spread own (length t) h)

-- how many they can be
insert_length : (x : ℕ) (l : List ℕ) → length (insert_once x l) ≤ suc (length l)
unfolding insert_once
insert_length x [] = omega arith
insert_length x (y ∷ ys) = step (ltb y x) (eqb y x) refl refl (insert_length x ys)
  where
    step : (p q : Bool) → ltb y x ≡ p → eqb y x ≡ q → length (insert_once x ys) ≤ suc (length ys) → length (insert_once x (y ∷ ys)) ≤ suc (suc (length ys))
    step true q e f ih = rw (e, insert_once) (omega arith)
    step false true e f ih = rw (e, f, insert_once) (omega arith)
    step false false e f ih = rw (e, f, insert_once) (omega arith)

insert_all_length : (xs l : List ℕ) → length (insert_all xs l) ≤ length xs + length l
unfolding insert_all
insert_all_length [] l = omega arith
insert_all_length (x ∷ xs) l = omega (arith, insert_all_length xs (insert_once x l), insert_length x l)

pub named_count : (own c : ℕ) (names : List ℕ) → own < c → Below c names → length (keep (also_all names (also own (λ _. false))) (up_to c)) ≤ suc (length names)
named_count own c names h b =
    let e = ap (insert_all names) (single own c h) ∙ insert_all_lem (also own (λ _. false)) c names b in
    rw (← e) (omega (arith, insert_all_length names (own ∷ [])))

-- the columns visited are below c
pub asc_below : (p : ℕ → Bool) (c n b : ℕ) → b + n ≤ c → Below c (keep p (asc b n))
asc_below p c zero b h = rw (keep_nil p) (λ k q. absurd (omega arith))
asc_below p c (suc n) b h = step (p b) refl (asc_below p c n (suc b) (omega arith))
  where
    step : (x : Bool) → p b ≡ x → Below c (keep p (asc (suc b) n)) → Below c (keep p (b ∷ asc (suc b) n))
    step true e ih = rw (keep_yes p b (asc (suc b) n) e) first
      where
        first : (k : ℕ) → k < suc (length (keep p (asc (suc b) n))) → get_or (b ∷ keep p (asc (suc b) n)) k 0 < c
        first zero q = omega arith
        first (suc k) q = ih k (omega arith)
    step false e ih = rw (keep_no p b (asc (suc b) n) e) ih

pub visited_below : (names : List ℕ) (c : ℕ) (t : List ℕ) (r : ℕ) → Visited names c t r → Below c (take r t)
visited_below names c t r v = rw (v.front, up_to_asc) (asc_below v.test c c 0 (omega arith))
