-- The elements of a list that pass a test, one by one and end to end.
use Prim.Native.Nat.{ℕ, suc, ◌≤◌}
use mathlib.Core.Path.{◌≡◌, refl, ap}
use mathlib.Core.Bool.{Bool, true, false}
use mathlib.Core.List.{List, [], ◌∷◌, ◌++◌, map, flat_map, map-append}
use native.Mathlib.Omega.{arith}
use lib.ListN.{length}
use Rattle.definitions.specs.Lists.{keep}
use Rattle.definitions.specs.Matrix.{Entry, values_where}

module _ {A : Type 0} (p : A → Bool) where
  pub keep_nil : keep p [] ≡ []
  unfolding keep
  keep_nil = refl

  pub keep_yes : (x : A) (xs : List A) → p x ≡ true → keep p (x ∷ xs) ≡ x ∷ keep p xs
  unfolding keep
  keep_yes x xs e = rw (e, keep)

  pub keep_no : (x : A) (xs : List A) → p x ≡ false → keep p (x ∷ xs) ≡ keep p xs
  unfolding keep
  keep_no x xs e = rw (e, keep)

  pub keep_append : (xs ys : List A) → keep p (xs ++ ys) ≡ keep p xs ++ keep p ys
  keep_append [] ys = rw keep_nil
  keep_append (x ∷ xs) ys = step (p x) refl (keep_append xs ys)
    where
      step : (b : Bool) → p x ≡ b → keep p (xs ++ ys) ≡ keep p xs ++ keep p ys → keep p (x ∷ (xs ++ ys)) ≡ keep p (x ∷ xs) ++ keep p ys
      step true e ih = rw (keep_yes x (xs ++ ys) e, keep_yes x xs e, ih)
      step false e ih = rw (keep_no x (xs ++ ys) e, keep_no x xs e, ih)

  pub keep_length : (xs : List A) → length (keep p xs) ≤ length xs
  keep_length [] = rw keep_nil (omega arith)
  keep_length (x ∷ xs) = step (p x) refl (keep_length xs)
    where
      step : (b : Bool) → p x ≡ b → length (keep p xs) ≤ length xs → length (keep p (x ∷ xs)) ≤ suc (length xs)
      step true e ih = rw (keep_yes x xs e) (omega arith)
      step false e ih = rw (keep_no x xs e) (omega arith)

-- the rows that pass give what they gave, the others nothing
module _ {A B : Type 0} (p : A → Bool) (f g : A → List B) (hit : (x : A) → p x ≡ true → f x ≡ g x) (miss : (x : A) → p x ≡ false → f x ≡ []) where
  pub flat_map_keep : (xs : List A) → flat_map f xs ≡ flat_map g (keep p xs)
  unfolding flat_map keep
  flat_map_keep [] = refl
  flat_map_keep (x ∷ xs) = step (p x) refl (flat_map_keep xs)
    where
      step : (b : Bool) → p x ≡ b → flat_map f xs ≡ flat_map g (keep p xs) → f x ++ flat_map f xs ≡ flat_map g (keep p (x ∷ xs))
      step true e ih = rw (e, keep) (rw (hit x e, ih))
      step false e ih = rw (e, keep) (rw (miss x e, ih))

pub flat_map_one : {A B : Type 0} (f : A → B) (xs : List A) → flat_map (λ x. f x ∷ []) xs ≡ map f xs
unfolding flat_map
flat_map_one f [] = refl
flat_map_one f (x ∷ xs) = ap (λ l. f x ∷ l) (flat_map_one f xs)

-- ---- the numbers of entries whose column passes a test

module _ (p : ℕ → Bool) (e : Entry) (es : List Entry) where
  pub where_hit : p e.col ≡ true → values_where p (e ∷ es) ≡ e.value ∷ values_where p es
  unfolding values_where keep
  where_hit h = rw (h, keep)

  pub where_miss : p e.col ≡ false → values_where p (e ∷ es) ≡ values_where p es
  unfolding values_where keep
  where_miss h = rw (h, keep)

pub where_none : (p : ℕ → Bool) → values_where p [] ≡ []
unfolding values_where keep
where_none p = refl

pub where_append : (p : ℕ → Bool) (xs ys : List Entry) → values_where p (xs ++ ys) ≡ values_where p xs ++ values_where p ys
unfolding values_where
where_append p xs ys = rw (keep_append (λ e. p e.col) xs ys) (map-append (λ e. e.value) (keep (λ e. p e.col) xs) (keep (λ e. p e.col) ys))
