-- The checks of a call whose lists all belong to the coarse part: 17, 18, and what is known where both passed.
use Prim.Native.Nat.{ℕ, ◌<◌, ◌≤◌}
use mathlib.Core.Path.{◌≡◌}
use mathlib.Core.Bool.{Bool, true, false, ◌&&◌}
use mathlib.Core.Logic.{◌⊎◌, ⊎_elim}
use lib.Dec.{leb}
use borrow.Author.Tests.{le-leb, lt-leb, leb-true}
use Rattle.definitions.specs.Refusal.{Outcome, refused, require, ◌>>=◌}
use Rattle.definitions.specs.Setup.{max_coarse}
use Rattle.definitions.specs.declared.Refusal.TheVariants.{CoarseTooLarge, CoarseListTooShort}
use Rattle.laws.proofs.Tests.{both_true}

pub covered : (a n b m : ℕ) → (leb a n && leb b m) ≡ true → (a ≤ n) × (b ≤ m)
covered a n b m e = let h = both_true (leb a n) (leb b m) e in (leb-true a n h.0, leb-true b m h.1)

pub both_fit : (a n b m : ℕ) → a ≤ n → b ≤ m → (leb a n && leb b m) ≡ true
both_fit a n b m h k = rw (le-leb a n h, le-leb b m k)

-- the first list is too short, or it is not and the second is
pub one_short : (a n b m : ℕ) → (n < a) ⊎ ((a ≤ n) × (m < b)) → (leb a n && leb b m) ≡ false
one_short a n b m = ⊎_elim (λ h. rw (lt-leb a n h)) (λ h. rw (le-leb a n h.0, lt-leb b m h.1))

module _ {A : Type 0} (c : ℕ) (fits : Bool) (next : Outcome A) where
  -- both checks, and then what is made
  abbrev pub checks : Outcome A
  checks = require (leb c max_coarse) (CoarseTooLarge c) >>= (λ _. require fits (CoarseListTooShort c) >>= (λ _. next))

  pub large : max_coarse < c → checks ≡ refused (CoarseTooLarge c)
  unfolding require ◌>>=◌
  large h = rw (lt-leb c max_coarse h)

  pub short : c ≤ max_coarse → fits ≡ false → checks ≡ refused (CoarseListTooShort c)
  unfolding require ◌>>=◌
  short h e = rw (le-leb c max_coarse h, e)

  pub fit : c ≤ max_coarse → fits ≡ true → checks ≡ next
  unfolding require ◌>>=◌
  fit h e = rw (le-leb c max_coarse h, e)
