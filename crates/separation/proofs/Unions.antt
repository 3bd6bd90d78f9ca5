-- Unconnected parts may be put together: what is made of two of them node by node, as their union, their intersection or the rest, is unconnected. None and all are, too.
-- For a link joins nodes that are alike in both, so they are alike in what is made of them.
use mathlib.Core.Bool.{Bool, true, false, not, ◌||◌, beq}
use mathlib.Core.List.{List}
use Prim.Native.Nat.{ℕ, ◌/◌}
use lib.Dec.{T}
use lib.Ieee.Fits.{and_i, and_l, and_r}
use Rattle.definitions.specs.Lists.{up_to, all}
use Rattle.definitions.specs.Matrix.{Matrix, Entry, entries_of}
use Rattle.definitions.specs.Links.{unconnected}
use Rattle.laws.proofs.Lists.{each_all, all_each, each_imp, each_both, each_any}

beq_self : (b : Bool) → T (beq b b)
beq_self true = tt
beq_self false = tt

all_with : {A : Type 0} (p q r : A → Bool) (xs : List A) → ((x : A) → T (p x) → T (q x) → T (r x)) → T (all p xs) → T (all q xs) → T (all r xs)
all_with p q r xs h t u = all_each r (each_imp (λ x k. h x k.0 k.1) (each_both (each_all p xs t) (each_all q xs u)))

module _ (f : Bool → Bool → Bool) where
  both : (p p' q q' : Bool) → T (beq p p') → T (beq q q') → T (beq (f p q) (f p' q'))
  both true true true true h k = beq_self (f true true)
  both true true false false h k = beq_self (f true false)
  both false false true true h k = beq_self (f false true)
  both false false false false h k = beq_self (f false false)
  both true false q q' h k = absurd h
  both false true q q' h k = absurd h
  both true true true false h k = absurd k
  both true true false true h k = absurd k
  both false false true false h k = absurd k
  both false false false true h k = absurd k

  pub combined : (a : Matrix) (size : ℕ) (further : List (ℕ × ℕ)) (p q : ℕ → Bool) → T (unconnected a size further p) → T (unconnected a size further q)
      → T (unconnected a size further (λ v. f (p v) (q v)))
  unfolding unconnected
  combined a size further p q t u =
      and_i (all (row_of (λ v. f (p v) (q v))) (up_to a.rows)) (all (link_of (λ v. f (p v) (q v))) further)
      (all_with (row_of p) (row_of q) (row_of (λ v. f (p v) (q v))) (up_to a.rows)
      (λ row. all_with (entry_of p row) (entry_of q row) (entry_of (λ v. f (p v) (q v)) row) (entries_of a row) (λ e. both (p (row / size)) (p (e.col / size)) (q (row / size)) (q (e.col / size))))
      (and_l (all (row_of p) (up_to a.rows)) (all (link_of p) further) t) (and_l (all (row_of q) (up_to a.rows)) (all (link_of q) further) u))
      (all_with (link_of p) (link_of q) (link_of (λ v. f (p v) (q v))) further (λ l. both (p l.0) (p l.1) (q l.0) (q l.1))
      (and_r (all (row_of p) (up_to a.rows)) (all (link_of p) further) t) (and_r (all (row_of q) (up_to a.rows)) (all (link_of q) further) u))
    where
      entry_of : (ℕ → Bool) → ℕ → Entry → Bool
      entry_of s row e = beq (s (row / size)) (s (e.col / size))

      row_of : (ℕ → Bool) → ℕ → Bool
      row_of s row = all (λ e. beq (s (row / size)) (s (e.col / size))) (entries_of a row)

      link_of : (ℕ → Bool) → ℕ × ℕ → Bool
      link_of s l = beq (s l.0) (s l.1)

-- none, or all
pub constant_part : (b : Bool) (a : Matrix) (size : ℕ) (further : List (ℕ × ℕ)) → T (unconnected a size further (λ v. b))
unfolding unconnected
constant_part b a size further =
    and_i (all (λ row. all (λ e. beq b b) (entries_of a row)) (up_to a.rows)) (all (λ l. beq b b) further)
    (all_each (λ row. all (λ e. beq b b) (entries_of a row)) (each_any (up_to a.rows) (λ row. all_each (λ e. beq b b) (each_any (entries_of a row) (λ e. beq_self b)))))
    (all_each (λ l. beq b b) (each_any further (λ l. beq_self b)))

-- the rest of an unconnected part
pub rest_unconnected : (a : Matrix) (size : ℕ) (further : List (ℕ × ℕ)) (p : ℕ → Bool) → T (unconnected a size further p) → T (unconnected a size further (λ v. not (p v)))
rest_unconnected a size further p t = combined (λ x y. not x) a size further p p t t

pub union_unconnected : (a : Matrix) (size : ℕ) (further : List (ℕ × ℕ)) (p q : ℕ → Bool) → T (unconnected a size further p) → T (unconnected a size further q)
    → T (unconnected a size further (λ v. p v || q v))
union_unconnected a size further p q t u = combined (λ x y. x || y) a size further p q t u
