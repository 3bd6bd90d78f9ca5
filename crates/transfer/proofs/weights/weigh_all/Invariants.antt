-- Every column is there; what the entries that are left take off stays what the whole row takes off.
use mathlib.Core.Path.{◌≡◌}
use mathlib.Core.List.{◌++◌}
use lib.ListN.{drop, set, replicate}
use Rattle.definitions.specs.Lists.{tab}
use Rattle.definitions.specs.Numbers.{zeroᶠ, oneᶠ}
use Rattle.definitions.specs.Transfer.{coarse_column}
use Rattle.transfer.proofs.Passes.{rest}
use Rattle.transfer.proofs.weights.weigh_all.Given as goal

abbrev pub invariant-loop-column : goal.invariant-loop-column
invariant-loop-column l = l.t ≡ tab (λ i. i) l.column ++ drop l.column l.fn.t

abbrev pub invariant-loop-k : goal.invariant-loop-k
invariant-loop-k l =
    rest l.s.a.col_idx.now l.s.a.values.now (coarse_column l.s.groups.size l.s.groups.ids.now) l.s.damping l.inv l.to l.k l.w
    ≡ rest l.s.a.col_idx.now l.s.a.values.now (coarse_column l.s.groups.size l.s.groups.ids.now) l.s.damping l.inv l.to l.from (set (replicate l.s.groups.coarse zeroᶠ) l.own oneᶠ)
