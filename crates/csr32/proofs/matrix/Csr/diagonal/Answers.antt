-- Each check that passes goes on to the next, and the first that fails keeps the list.
use mathlib.Core.Path.{◌≡◌, ap, ◌∙◌}
use Prim.Native.Nat.{◌<◌, ◌≤◌}
use lib.ListN.{length}
use native.Mathlib.Omega.{arith}
use Rattle.std.proofs.lemmas.Result.{err_from_is_err_and}
use Rattle.definitions.specs.Refusal.{result_left}
use Rattle.definitions.specs.Numbers.{zeroᶠ}
use Rattle.definitions.specs.Diagonal.{diagonal_of}
use Rattle.definitions.specs.Answers.{answer_of}
use Rattle.csr32.specs.Seen.{lent}
use Rattle.csr32.proofs.Calling.{stopped, too_short, filled}
use Rattle.csr32.proofs.matrix.Csr.diagonal.Goals as goal

pub returns-in_err-a : goal.returns-in_err-a
returns-in_err-a c =
    let p = err_from_is_err_and c.from_residual.result c.from_residual.ensures.1 in
    let z = stopped (lent c.args.self.now) c.args.diagonal.now _ c.in_err-a.ensures in
    rw (p.1, p.2) (record { value = z.value; diagonal_after = z.diagonal_after })

pub returns-then-diagonal-a : goal.returns-then-diagonal-a
returns-then-diagonal-a c =
    let e = c.in_ok-a.ensures in
    let rows : c.in_ok-a.a.rows ≡ c.args.self.now.rows = ap (λ m. m.rows) e.1 in
    let short : length c.args.diagonal.now < c.args.self.now.rows = omega arith in
    let z = too_short (lent c.args.self.now) c.args.diagonal.now e.0 short in
    record { value = z.value; diagonal_after = z.diagonal_after }

pub returns : goal.returns
returns c =
    let e = c.in_ok-a.ensures in
    let f = c.fill_diagonal in
    let rows : c.in_ok-a.a.rows ≡ c.args.self.now.rows = ap (λ m. m.rows) e.1 in
    let long : c.args.self.now.rows ≤ length c.args.diagonal.now = omega arith in
    let z = filled (lent c.args.self.now) c.args.diagonal.now e.0 long f.result f.new.diagonal (f.ensures.value ∙ ap (λ m. answer_of (diagonal_of m)) e.1) (f.ensures.diagonal_after ∙ ap (λ m. result_left zeroᶠ (diagonal_of m) c.args.diagonal.now) e.1) in
    record { value = z.value; diagonal_after = z.diagonal_after }
