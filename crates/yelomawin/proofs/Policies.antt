-- Which lists are records.
use Prim.Native.Nat.{ℕ, ◌≤◌}
use mathlib.Core.Path.{◌≡◌, refl}
use mathlib.Core.Bool.{Bool, true, false, ◌&&◌}
use mathlib.Core.List.{List}
use lib.ListN.{length}
use borrow.Author.Tests.{leb-true}
use Rattle.definitions.specs.Record.{is_record}

first_true : (b c : Bool) → (b && c) ≡ true → b ≡ true
first_true true c e = refl
first_true false c e = cc

pub long : (l : List ℕ) → is_record l ≡ true → 15 ≤ length l
unfolding is_record
long l e = leb-true 15 (length l) (first_true _ _ e)
