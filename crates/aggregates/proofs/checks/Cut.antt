-- Neighbour lists at the front of a list that may end before they do: cut off there, they are what the definitions take.
use Rattle.std.specs.Prelude.{Option, unwrap_or, option_copied}
use Rattle.std.specs.Slice.{IsItemAt}
use Rattle.std.proofs.lemmas.List.{take_min, drop_min}
use Rattle.std.specs.Borrow.{Bor}
use mathlib.Core.Path.{◌≡◌, ap, ◌∙◌}
use mathlib.Core.List.{List}
use Prim.Native.Nat.{ℕ, suc, ◌+◌, min}
use native.Mathlib.Omega.{arith}
use lib.ListN.{length, get_or, take, drop}
use Rattle.aggregates.specs.Stored.{offsets_in, neighbours_in}

module _ (n : ℕ) (l : List ℕ) {mid count end : ℕ} {offsets behind : List ℕ} {copied : Option ℕ} (got : Option (Bor ℕ)) (m : mid ≡ min (n + 1) (length l)) (front : offsets ≡ take mid l) (back : behind ≡ drop mid l) (item : IsItemAt l n got) (copy : copied ≡ option_copied got) (k : count ≡ unwrap_or copied 0) (e : end ≡ min count (length behind)) where
  next : n + 1 ≡ suc n
  next = omega arith

  pub offsets_are : offsets ≡ offsets_in n l
  unfolding offsets_in
  offsets_are = front ∙ ap (λ x. take x l) m ∙ take_min (n + 1) l ∙ ap (λ x. take x l) next

  behind_is : behind ≡ drop (suc n) l
  behind_is = back ∙ ap (λ x. drop x l) m ∙ drop_min (n + 1) l ∙ ap (λ x. drop x l) next

  -- the last offset, and 0 if the list ends before it
  count_is : count ≡ get_or l n 0
  count_is = k ∙ ap (λ o. unwrap_or o 0) copy ∙ item.4 (omega arith) 0

  pub neighbours_are : take end behind ≡ neighbours_in n l
  unfolding neighbours_in
  neighbours_are = ap (λ x. take x behind) e ∙ take_min count behind ∙ ap (take count) behind_is ∙ ap (λ x. take x (drop (suc n) l)) count_is
