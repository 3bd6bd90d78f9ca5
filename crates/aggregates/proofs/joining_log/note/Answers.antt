-- `note` writes three numbers, one behind another.
use mathlib.Core.Path.{◌≡◌}
use Prim.Native.Nat.{suc, ◌+◌}
use native.Mathlib.Omega.{arith}
use Rattle.aggregates.specs.Log.{noted}
use Rattle.aggregates.proofs.joining_log.note.Goals as goal

pub returns : goal.returns
unfolding noted
returns c =
    let a = c.args in
    let one : a.at + 1 ≡ suc a.at = omega arith in
    let two : a.at + 2 ≡ suc (suc a.at) = omega arith in
    rw (c.put-3.ensures, two, c.put-2.ensures, one, c.put.ensures)
