-- Every number of the list has 32 bits.
use native.Mathlib.Omega.{arith}
use mathlib.Core.Path.{sym}
use Rattle.numbers.proofs.Passing.{none_reaches}
use Rattle.numbers.proofs.scan.reaches.Goals as goal

pub returns-in-Err : goal.returns-in-Err
returns-in-Err c = let a = c.args in sym (none_reaches a.top a.list.now (λ k. omega (arith, c.try_from.ensures, c.shared_slice_known-1.given k)))
