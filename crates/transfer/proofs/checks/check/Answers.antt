-- Each check's answer goes on or stops, as the definition's steps do.
use Rattle.std.specs.Prelude.{Err, Ok}
use Rattle.std.proofs.lemmas.Result.{err_from_is_err_and}
use mathlib.Core.Path.{refl, sym}
use native.Mathlib.Omega.{arith}
use lib.ListN.{length}
use Rattle.definitions.specs.Refusal.{◌>>=◌}
use Rattle.definitions.specs.Matrix.{structure_of}
use Rattle.csr32.specs.Seen.{lent}
use Rattle.csr32.specs.Valid.{structured_rows}
use Rattle.transfer.specs.Call.{shape_checked, groups_checked}
use Rattle.transfer.proofs.Checking.{shape_facts}
use Rattle.transfer.proofs.Calling.{stop, go, many_groups, few_groups}
use Rattle.transfer.proofs.checks.check.Goals as goal

pub returns-then-count-gt-MAX_ROWS : goal.returns-then-count-gt-MAX_ROWS
returns-then-count-gt-MAX_ROWS c = let a = c.args in many_groups (lent a.a.now) a.size a.ids.now a.count a.diagonal a.ints a.floats (omega arith)

pub returns-in_err-structure : goal.returns-in_err-structure
returns-in_err-structure c =
    let p = err_from_is_err_and c.from_residual.result c.from_residual.ensures.1 in
    let a = c.args in
    let m = lent a.a.now in
    rw (p.1, p.2) (few_groups m a.size a.ids.now a.count a.diagonal a.ints a.floats (Err _) (omega arith)
    (stop (structure_of m) (λ _. (shape_checked m.rows m.cols (length m.values) a.size a.ints a.floats) >>= (λ _. (groups_checked m.rows (length m.values) a.size a.ids.now a.count a.diagonal a.ints a.floats))) _ c.in_err-structure.ensures _ refl))

pub shape-requires : goal.shape-requires
shape-requires c = let w = structured_rows (lent c.args.a.now) (sym c.in_ok-structure.ensures) in (w.few_rows, w.few_entries)

pub returns-in_err-shape : goal.returns-in_err-shape
returns-in_err-shape c =
    let p = err_from_is_err_and c.from_residual-in_err-shape.result c.from_residual-in_err-shape.ensures.1 in
    let a = c.args in
    let m = lent a.a.now in
    rw (p.1, p.2) (few_groups m a.size a.ids.now a.count a.diagonal a.ints a.floats (Err _) (omega arith)
    (go (structure_of m) (λ _. (shape_checked m.rows m.cols (length m.values) a.size a.ints a.floats) >>= (λ _. (groups_checked m.rows (length m.values) a.size a.ids.now a.count a.diagonal a.ints a.floats))) (Ok tt) c.in_ok-structure.ensures _ refl
    (stop (shape_checked m.rows m.cols (length m.values) a.size a.ints a.floats) (λ _. (groups_checked m.rows (length m.values) a.size a.ids.now a.count a.diagonal a.ints a.floats)) _ c.in_err-shape.ensures _ refl)))

pub groups-requires : goal.groups-requires
groups-requires c =
    let a = c.args in
    let m = lent a.a.now in
    let w = structured_rows m (sym c.in_ok-structure.ensures) in
    let s = shape_facts m.rows m.cols (length m.values) a.size a.ints a.floats (sym c.in_ok-shape.ensures) in
    (w.few_rows, w.few_entries, s.1, s.2, omega arith)

pub returns : goal.returns
returns c =
    let a = c.args in
    let m = lent a.a.now in
    few_groups m a.size a.ids.now a.count a.diagonal a.ints a.floats c.groups.result (omega arith)
    (go (structure_of m) (λ _. (shape_checked m.rows m.cols (length m.values) a.size a.ints a.floats) >>= (λ _. (groups_checked m.rows (length m.values) a.size a.ids.now a.count a.diagonal a.ints a.floats))) (Ok tt) c.in_ok-structure.ensures c.groups.result refl
    (go (shape_checked m.rows m.cols (length m.values) a.size a.ints a.floats) (λ _. (groups_checked m.rows (length m.values) a.size a.ids.now a.count a.diagonal a.ints a.floats)) (Ok tt) c.in_ok-shape.ensures c.groups.result refl c.groups.ensures))
