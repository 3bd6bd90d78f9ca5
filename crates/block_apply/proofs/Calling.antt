-- The checks, one after the other: the answer, and what the correction holds.
use Rattle.std.specs.Prelude.{Err, Ok, Result}
use Prim.Native.Nat.{ℕ, ◌-◌, ◌*◌}
use mathlib.Core.Path.{◌≡◌, refl, sym, ◌∙◌}
use mathlib.Core.Bool.{Bool, true, false, ◌&&◌}
use mathlib.Core.List.{List, append-nil}
use native.Mathlib.Omega.{arith}
use lib.Dec.{leb}
use lib.ListN.{length}
use lib.Ieee.{Float}
use borrow.Author.Tests.{eq-eqb, ne_eqb}
use Rattle.definitions.specs.Lists.{padded}
use Rattle.definitions.specs.Numbers.{zeroᶠ}
use Rattle.definitions.specs.Refusal.{Outcome, refused, done, require, ◌>>=◌, result_left, keeps_all, cause_of}
use Rattle.definitions.specs.Matrix.{max_rows}
use Rattle.definitions.specs.Block.{max_block, block_applied, block_apply_call, block_apply_left}
use Rattle.definitions.specs.Answers.{answer_of}
use Rattle.definitions.specs.declared.Refusal.{Refusal}
use Rattle.definitions.specs.declared.Refusal.TheVariants.{WrongLength, SetupMisfit}

-- the numbers that cause 26 tests
abbrev pub fitting : ℕ → ℕ → ℕ → Bool
fitting rows size room = leb rows max_rows && leb 1 size && leb size max_block && leb (rows * size) room

refuse_kept : (o : Outcome (List Float)) (lent : List Float) (c : Refusal) → o ≡ refused c → keeps_all c ≡ true → (Err c ≡ answer_of o) × (lent ≡ result_left zeroᶠ o lent)
unfolding answer_of result_left
refuse_kept o lent c e k = (rw e, rw (e, k, result_left))

accept_full : (o : Outcome (List Float)) (lent z : List Float) → o ≡ done z → length z ≡ length lent → ((Ok tt) ≡ answer_of o) × (z ≡ result_left zeroᶠ o lent)
unfolding answer_of result_left padded
accept_full o lent z e n = let q : length lent - length z ≡ 0 = omega arith in (rw e, rw (e, q, append-nil))

module _ (rows size : ℕ) (factors r lent : List Float) where
  abbrev pub Answered : (Result (Unit {0}) Refusal) → List Float → Type 0
  Answered a z = (a ≡ answer_of (block_apply_call rows size factors r (length lent))) × (z ≡ block_apply_left rows size factors r lent)

  pub wrong_residual : (length r ≡ rows → ⊥) → Answered (Err (WrongLength rows (length r))) lent
  unfolding block_apply_call block_apply_left require ◌>>=◌ keeps_all cause_of
  wrong_residual h = refuse_kept (block_apply_call rows size factors r (length lent)) lent (WrongLength rows (length r)) (rw (ne_eqb (length r) rows h)) refl

  pub wrong_correction : length r ≡ rows → (length lent ≡ rows → ⊥) → Answered (Err (WrongLength rows (length lent))) lent
  unfolding block_apply_call block_apply_left require ◌>>=◌ keeps_all cause_of
  wrong_correction n h = refuse_kept (block_apply_call rows size factors r (length lent)) lent (WrongLength rows (length lent)) (rw (eq-eqb (length r) rows n, ne_eqb (length lent) rows h)) refl

  module _ (n : length r ≡ rows) (m : length lent ≡ rows) (b : Bool) (eb : b ≡ fitting rows size (length factors)) where
    pub misfit : b ≡ false → Answered (Err SetupMisfit) lent
    unfolding block_apply_call block_apply_left require ◌>>=◌ keeps_all cause_of
    misfit h =
        refuse_kept (block_apply_call rows size factors r (length lent)) lent SetupMisfit
        (rw (eq-eqb (length r) rows n, eq-eqb (length lent) rows m, ← eb, h)) refl

    pub applied : b ≡ true → (z : List Float) → length z ≡ rows → z ≡ block_applied rows size factors r → Answered (Ok tt) z
    unfolding block_apply_call block_apply_left require ◌>>=◌
    applied h z k e =
        accept_full (block_apply_call rows size factors r (length lent)) lent z
        (rw (eq-eqb (length r) rows n, eq-eqb (length lent) rows m, ← eb, h, e)) (k ∙ sym m)
