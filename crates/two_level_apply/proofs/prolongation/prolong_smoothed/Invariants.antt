use mathlib.Core.Path.{◌≡◌}
use mathlib.Core.List.{◌++◌}
use lib.ListN.{get_or, drop}
use lib.Ieee.{nan}
use Rattle.definitions.specs.Lists.{tab}
use Rattle.definitions.specs.Numbers.{◌+ᶠ◌, summed}
use Rattle.definitions.specs.Matrix.{row_of}
use Rattle.definitions.specs.Apply.{prolongation_terms}
use Rattle.two_level_apply.proofs.prolongation.prolong_smoothed.Given as goal

abbrev pub invariant-loop-i : goal.invariant-loop-i
invariant-loop-i l =
    let t = l.transfer in
    l.z ≡ tab (λ i. get_or l.initial.z i nan +ᶠ summed (prolongation_terms (row_of t.row_ptr.now t.col_idx.now t.values.now i) l.sol)) l.i ++ drop l.i l.initial.z
