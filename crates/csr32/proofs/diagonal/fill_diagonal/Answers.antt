-- The rows left to do give, from the sums so far, what the whole gives.
use Rattle.csr32.proofs.Results.{left_done}
use mathlib.Core.Path.{refl}
use native.Mathlib.Omega.{arith}
use lib.ListN.{length-set}
use Rattle.csr32.specs.Seen.{square}
use Rattle.csr32.proofs.Sums.{found_some, found_none}
use Rattle.definitions.specs.Diagonal.{diagonal_of}
use Rattle.definitions.specs.Answers.{answer_of}
use Rattle.csr32.proofs.Filling.{own_numbers, fill_none, fill_more, fill_missing, fill_all, left_missing}
use mathlib.Core.Bool.{true, false}
use Rattle.csr32.proofs.diagonal.fill_diagonal.Goals as goal

pub loop-i-init : goal.loop-i-init
loop-i-init c = let a = c.args in (refl, fill_none (square a.a.now) a.diagonal.now)

pub loop-i-preserved : goal.loop-i-preserved
loop-i-preserved c =
    let a = c.args in
    let l = c.loop-i in
    let f = found_some _ c.in-Some.sum c.in-Some.ensures in
    let x = own_numbers (square a.a.now) l.i _ c.row.ensures.entries in
    (simp length-set l.invariant.0, fill_more (square a.a.now) l.i _ (omega arith) x true f.0 l.diagonal l.invariant.1 _ (omega arith) f.1 refl)

pub returns-in_default : goal.returns-in_default
unfolding answer_of
returns-in_default c =
    let a = c.args in
    let l = c.loop-i in
    let m = square a.a.now in
    let x = own_numbers m l.i _ c.row.ensures.entries in
    let e = fill_missing m l.i _ (omega arith) x false (found_none _ c.in_default.ensures) l.diagonal l.invariant.1 refl in
    record { value = rw (e, answer_of); diagonal_after = left_missing (diagonal_of m) l.i l.diagonal a.diagonal.now _ e l.invariant.0 (c.fill.ensures.after (λ y e. e)) }

pub returns : goal.returns
unfolding answer_of
returns c =
    let a = c.args in
    let l = c.loop-i in
    let m = square a.a.now in
    let e = fill_all m l.i l.diagonal (omega arith) l.invariant.1 in
    record { value = rw (e, answer_of); diagonal_after = left_done a.a.now.rows l.diagonal a.diagonal.now _ c.requires l.invariant.0 (c.fill-2.ensures.after (λ y e. e)) (diagonal_of m) e }
