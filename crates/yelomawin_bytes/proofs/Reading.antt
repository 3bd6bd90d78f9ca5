-- What is read stands in the front of its room.
use Prim.Native.Nat.{ℕ, ◌/◌}
use mathlib.Core.Path.{◌≡◌, sym, ◌∙◌}
use mathlib.Core.Bool.{Bool, true, cond}
use mathlib.Core.List.{List}
use lib.ListN.{length}
use Rattle.byte_lists.specs.Bytes.{over}
use Rattle.byte_lists.proofs.Laws.{front, room_for_lem}
use Rattle.definitions.specs.Lists.{tab}
use Rattle.yelomawin_bytes.specs.Handed.{Read}

pub read_in : {A : Type 0} (w : ℕ) (numbers : List ℕ → List A) (f : ℕ → A) {b : List ℕ} {lent room : List A} {fits : Bool} → numbers b ≡ tab f (length b / w) → fits ≡ true → length room ≡ length lent → room ≡ cond fits (over (numbers b) lent) lent → Read w numbers b lent room
read_in w numbers f {b} {lent} {room} q e same h =
    let n = length b / w in
    let t : room ≡ over (tab f n) lent = rw (e, q) at h in
    record { long = same; fit = room_for_lem f n lent room t; front = front f n lent room t ∙ sym q }
