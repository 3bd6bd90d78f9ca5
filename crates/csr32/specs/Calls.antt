-- A call's checks, one after the other: what a check that passes and one that fails make of the answer, and of the list lent for the result.
use Rattle.std.specs.Prelude.{◌≡◌, refl, Bool, true, false, List, Err, Ok}
use Rattle.definitions.specs.Refusal.{Outcome, refused, done, Checked, require, ◌>>=◌, keeps_all, result_left, work_left}
use Rattle.definitions.specs.Answers.{answer_of}
use Rattle.definitions.specs.declared.Refusal.{Refusal}

-- an answer tells the outcome
pub accepted_done : (o : Checked) → answer_of o ≡ (Ok tt) → o ≡ done tt
unfolding answer_of
accepted_done (done tt) e = refl
accepted_done (refused r) e = cc

pub refused_is : {A : Type 0} (o : Outcome A) (r : Refusal) → answer_of o ≡ Err r → o ≡ refused r
unfolding answer_of
refused_is (done x) r e = cc
refused_is (refused q) r e = cc

-- a refusal, if it is one, leaves every list as it was
unfoldable pub Keeps : {A : Type 0} → Outcome A → Type 0
Keeps (done x) = Unit {0}
Keeps (refused r) = keeps_all r ≡ true

pub keeps_require : (b : Bool) (r : Refusal) → keeps_all r ≡ true → Keeps (require b r)
unfolding Keeps require
keeps_require true r k = tt
keeps_require false r k = k

module _ {A B : Type 0} where
  pub keeps_then : (o : Outcome A) (next : A → Outcome B) → Keeps o → ((x : A) → Keeps (next x)) → Keeps (o >>= next)
  unfolding Keeps ◌>>=◌
  keeps_then (done x) next h k = k x
  keeps_then (refused r) next h k = h

  pub goes_on : (o : Outcome A) (x : A) (next : A → Outcome B) → o ≡ done x → (o >>= next) ≡ next x
  unfolding ◌>>=◌
  goes_on o x next e = rw e

  pub stops : (o : Outcome A) (r : Refusal) (next : A → Outcome B) → o ≡ refused r → (o >>= next) ≡ refused r
  unfolding ◌>>=◌
  stops o r next e = rw e

pub keeps_refused : {A : Type 0} (o : Outcome A) (r : Refusal) → Keeps o → o ≡ refused r → keeps_all r ≡ true
unfolding Keeps
keeps_refused (done x) r k e = cc
keeps_refused (refused q) r k e = let g : q ≡ r = cc in rw (← g) k

pub passed : (b : Bool) (r : Refusal) → b ≡ true → require b r ≡ done tt
unfolding require
passed b r e = rw e

pub failed : (b : Bool) (r : Refusal) → b ≡ false → require b r ≡ refused r
unfolding require
failed b r e = rw e

-- what a list holds after a refusal that keeps all
module _ {A : Type 0} (z : A) (lent : List A) (r : Refusal) (k : keeps_all r ≡ true) where
  pub result_kept : (o : Outcome (List A)) → o ≡ refused r → result_left z o lent ≡ lent
  unfolding result_left
  result_kept o e = rw e (rw (k, result_left))

  pub work_kept : {B : Type 0} (o : Outcome B) → o ≡ refused r → work_left z o lent ≡ lent
  unfolding work_left
  work_kept o e = rw e (rw (k, work_left))
