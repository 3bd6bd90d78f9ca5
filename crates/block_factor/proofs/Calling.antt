-- The checks of blocks alone, one after the other: the answer, and what the list holds.
use Rattle.std.specs.Prelude.{Err, Result}
use mathlib.Core.Path.{◌≡◌, refl, ap, sym, ◌∙◌}
use mathlib.Core.Bool.{true, false, ◌&&◌}
use mathlib.Core.List.{List}
use Prim.Native.Nat.{ℕ, ◌*◌, ◌<◌, ◌≤◌}
use lib.ListN.{length}
use lib.Ieee.{Float}
use borrow.Author.Tests.{le-leb, lt-leb}
use lib.Dec.{leb}
use Rattle.definitions.specs.Numbers.{zeroᶠ}
use Rattle.definitions.specs.Refusal.{refused, done, result_left, keeps_all, cause_of}
use Rattle.definitions.specs.Matrix.{Matrix}
use Rattle.definitions.specs.Block.{factors_of, blocks_call, blocks_left, max_block}
use Rattle.definitions.specs.Answers.{answer_of}
use Rattle.definitions.specs.declared.Refusal.{Refusal}
use Rattle.definitions.specs.declared.Refusal.TheVariants.{BlockSize, ListTooShort}
use Rattle.csr32.specs.Calls.{goes_on, stops, passed, failed, result_kept, keeps_refused}
use Rattle.csr32.specs.Seen.{square_call}
use Rattle.csr32.proofs.Squares.{square_keeps, square_goes, square_stops}

module _ (a : Matrix) (size : ℕ) (lent : List Float) where
  -- what the answer and the list are after a call
  pub record Left (x : Result (Unit {0}) Refusal) (d : List Float) : Type 0 where
    pub value : x ≡ answer_of (blocks_call a size (length lent))
    pub factors_after : d ≡ blocks_left a size lent

  -- the call is refused by a cause that keeps all
  kept : (r : Refusal) → keeps_all r ≡ true → blocks_call a size (length lent) ≡ refused r → Left (Err r) lent
  unfolding answer_of blocks_left
  kept r k e = record { value = rw e; factors_after = sym (result_kept zeroᶠ lent r k (blocks_call a size (length lent)) e) }

  pub stopped : (r : Refusal) → square_call a ≡ refused r → Left (Err r) lent
  unfolding blocks_call
  stopped r e = kept r (keeps_refused (square_call a) r (square_keeps a) e) (square_stops a _ r e)

  module _ (e : square_call a ≡ done tt) where
    size_refused : (leb 1 size && leb size max_block) ≡ false → Left (Err BlockSize) lent
    unfolding blocks_call keeps_all cause_of
    size_refused f = kept BlockSize refl (square_goes a _ e ∙ stops _ BlockSize _ (failed (leb 1 size && leb size max_block) BlockSize f))

    pub size_none : size < 1 → Left (Err BlockSize) lent
    size_none s = size_refused (rw (lt-leb 1 size s))

    pub size_large : 1 ≤ size → 8 < size → Left (Err BlockSize) lent
    size_large p s = size_refused (rw (le-leb 1 size p, lt-leb size 8 s))

    module _ (p : 1 ≤ size) (s : size ≤ 8) where
      sized : (leb 1 size && leb size max_block) ≡ true
      sized = rw (le-leb 1 size p, le-leb size 8 s)

      pub too_short : length lent < a.rows * size → Left (Err ListTooShort) lent
      unfolding blocks_call keeps_all cause_of
      too_short l =
          kept ListTooShort refl
          (square_goes a _ e ∙ goes_on _ tt _ (passed (leb 1 size && leb size max_block) BlockSize sized) ∙ stops _ ListTooShort _ (failed _ ListTooShort (lt-leb (a.rows * size) (length lent) l)))

      pub filled : a.rows * size ≤ length lent → (y : Result (Unit {0}) Refusal) (d : List Float) → y ≡ answer_of (factors_of a size) → d ≡ result_left zeroᶠ (factors_of a size) lent → Left y d
      unfolding blocks_call blocks_left
      filled l y d ey ed =
          let k : blocks_call a size (length lent) ≡ factors_of a size
          = square_goes a _ e ∙ goes_on _ tt _ (passed (leb 1 size && leb size max_block) BlockSize sized) ∙ goes_on _ tt _ (passed _ ListTooShort (le-leb (a.rows * size) (length lent) l)) in
          record { value = ey ∙ ap answer_of (sym k); factors_after = ed ∙ ap (λ o. result_left zeroᶠ o lent) (sym k) }
