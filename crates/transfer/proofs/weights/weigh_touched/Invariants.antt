-- The columns and weights that the entries left give stay those of the whole row.
use Prim.Native.Nat.{◌≤◌}
use mathlib.Core.Path.{◌≡◌}
use mathlib.Core.List.{[], ◌∷◌}
use lib.ListN.{set, take}
use lib.Seq.{slice}
use Rattle.definitions.specs.Numbers.{oneᶠ}
use Rattle.definitions.specs.Transfer.{coarse_column}
use Rattle.transfer.specs.Touched.{named}
use Rattle.transfer.proofs.Steps.{Spread, insert_all}
use Rattle.transfer.proofs.Accumulating.{onward}
use Rattle.transfer.proofs.weights.weigh_touched.Given as goal

abbrev pub invariant-loop-k : goal.invariant-loop-k
invariant-loop-k l = record {
  few : l.n ≤ l.s.groups.coarse;
  spread : Spread (take l.n l.t) l.s.groups.coarse;
  names : insert_all (named (coarse_column l.s.groups.size l.s.groups.ids.now) (slice l.k l.to l.s.a.col_idx.now)) (take l.n l.t) ≡ insert_all (named (coarse_column l.s.groups.size l.s.groups.ids.now) (slice l.from l.to l.s.a.col_idx.now)) (l.own ∷ []);
  numbers : onward l.s.a.col_idx.now l.s.a.values.now (coarse_column l.s.groups.size l.s.groups.ids.now) l.s.damping l.inv l.to l.k (take l.n l.t) l.w ≡ onward l.s.a.col_idx.now l.s.a.values.now (coarse_column l.s.groups.size l.s.groups.ids.now) l.s.damping l.inv l.to l.from (l.own ∷ []) (set l.fn.w l.own oneᶠ);
}
