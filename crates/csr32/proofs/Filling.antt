-- The diagonal row by row: what is left to do gives, from the sums so far, what the whole gives.
use mathlib.Core.Path.{◌≡◌, refl, ap, sym, ◌∙◌}
use mathlib.Core.Bool.{Bool, true, false}
use mathlib.Core.List.{List, [], ◌∷◌, ◌++◌}
use Prim.Native.Nat.{ℕ, suc, ◌+◌, ◌-◌, ◌<◌}
use native.Mathlib.Omega.{arith}
use native.Mathlib.Numerals.{add-one}
use lib.Dec.{eqb}
use lib.ListN.{length, set, take, replicate}
use lib.Seq.{take-suc-set}
use lib.Ieee.{Float}
use Rattle.definitions.specs.Numbers.{zeroᶠ, total}
use Rattle.definitions.specs.Refusal.{Outcome, refused, done, result_left, keeps_all, cause_of}
use Rattle.definitions.specs.Matrix.{Matrix, Entry, entries_of, values_where, stored_at}
use Rattle.definitions.specs.Diagonal.{diagonal_from, diagonal_of}
use Rattle.definitions.specs.declared.Refusal.TheVariants.{MissingDiagonal}
use Rattle.csr32.specs.Found.{some}

-- the numbers that row i stores at its own column
pub own_numbers : (a : Matrix) (i : ℕ) (es : List Entry) → es ≡ entries_of a i → values_where (λ c. eqb c i) es ≡ stored_at a i i
unfolding stored_at
own_numbers a i es e = rw e

from_some : (a : Matrix) (left i : ℕ) (sums xs : List Float) → stored_at a i i ≡ xs → some xs ≡ true
    → diagonal_from a (suc left) i sums ≡ diagonal_from a left (suc i) (sums ++ (total (stored_at a i i) ∷ []))
unfolding diagonal_from some
from_some a left i sums [] e s = cc
from_some a left i sums (x ∷ xs) e s = rw (e, diagonal_from) (rw e)

from_none : (a : Matrix) (left i : ℕ) (sums xs : List Float) → stored_at a i i ≡ xs → some xs ≡ false → diagonal_from a (suc left) i sums ≡ refused (MissingDiagonal i)
unfolding diagonal_from some
from_none a left i sums [] e s = rw (e, diagonal_from)
from_none a left i sums (x ∷ xs) e s = cc

pub fill_none : (a : Matrix) (d : List Float) → diagonal_from a (a.rows - 0) 0 (take 0 d) ≡ diagonal_of a
unfolding diagonal_of
fill_none a d = let z : a.rows - 0 ≡ a.rows = omega arith in rw z

module _ (a : Matrix) (i : ℕ) (xs : List Float) (h : i < a.rows) (ex : xs ≡ stored_at a i i)
    (st : Bool) (est : st ≡ some xs) (d : List Float) (inv : diagonal_from a (a.rows - i) i (take i d) ≡ diagonal_of a) where
  here : diagonal_from a (suc (a.rows - (i + 1))) i (take i d) ≡ diagonal_of a
  here = let z : suc (a.rows - (i + 1)) ≡ a.rows - i = omega arith in rw z inv

  found : some (stored_at a i i) ≡ st
  found = ap some (sym ex) ∙ sym est

  pub fill_more : (s : Float) → i < length d → s ≡ total xs → st ≡ true
      → diagonal_from a (a.rows - (i + 1)) (i + 1) (take (i + 1) (set d i s)) ≡ diagonal_of a
  fill_more s l es e =
      let g : diagonal_from a (a.rows - (i + 1)) (suc i) (take i d ++ (total (stored_at a i i) ∷ [])) ≡ diagonal_of a
      = sym (from_some a (a.rows - (i + 1)) i (take i d) (stored_at a i i) refl (found ∙ e)) ∙ here in
      let k : take (i + 1) (set d i s) ≡ take i d ++ (total (stored_at a i i) ∷ [])
      = rw add-one (take-suc-set d i s l ∙ ap (λ v. take i d ++ (v ∷ [])) (es ∙ ap total ex)) in
      ap (λ t. diagonal_from a (a.rows - (i + 1)) (i + 1) t) k ∙ ap (λ n. diagonal_from a (a.rows - (i + 1)) n (take i d ++ (total (stored_at a i i) ∷ []))) (add-one i) ∙ g

  pub fill_missing : st ≡ false → diagonal_of a ≡ refused (MissingDiagonal i)
  fill_missing e = sym here ∙ from_none a (a.rows - (i + 1)) i (take i d) (stored_at a i i) refl (found ∙ e)

pub fill_all : (a : Matrix) (i : ℕ) (d : List Float) → i ≡ a.rows → diagonal_from a (a.rows - i) i (take i d) ≡ diagonal_of a → diagonal_of a ≡ done (take a.rows d)
unfolding diagonal_from
fill_all a i d e inv = let z : a.rows - i ≡ 0 = omega arith in sym (rw (z, e) at inv)

-- what the list holds then
pub left_missing : (o : Outcome (List Float)) (i : ℕ) (d d₀ z : List Float) → o ≡ refused (MissingDiagonal i) → length d ≡ length d₀ → z ≡ replicate (length d) zeroᶠ → z ≡ result_left zeroᶠ o d₀
unfolding result_left keeps_all cause_of
left_missing o i d d₀ z e l f = rw (f, l, e)
