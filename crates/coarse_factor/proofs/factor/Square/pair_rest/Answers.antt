-- A column of w more.
use Prim.Native.Nat.{◌+◌}
use mathlib.Core.Path.{◌≡◌, ◌∙◌}
use native.Mathlib.Omega.{arith}
use lib.ListN.{get_or}
use lib.Ieee.{nan}
use Rattle.definitions.specs.Numbers.{◌*ᶠ◌}
use Rattle.definitions.specs.Coarse.{entry_in}
use Rattle.coarse_factor.specs.Fronts.{lane}
use Rattle.coarse_factor.proofs.Fronts.{lanes_none, lanes_more}
use Rattle.coarse_factor.proofs.factor.Square.pair_rest.Goals as goal

pub loop-k-init : goal.loop-k-init
loop-k-init c =
    let a = c.args in
    record {
      first = c.eight-x.ensures ∙ lanes_none (λ r. entry_in a.self.now.m.now a.self.now.c (a.n + r) a.j) (λ r t. lane a.w.now t r *ᶠ get_or a.row.now t nan) 8;
      second = c.eight-y.ensures ∙ lanes_none (λ r. entry_in a.self.now.m.now a.self.now.c (a.n + r) (a.j + 1)) (λ r t. lane a.w.now t r *ᶠ get_or a.next.now t nan) 8;
    }

pub loop-k-preserved : goal.loop-k-preserved
loop-k-preserved c =
    let a = c.args in
    let o = c.loop-k in
    record {
      first = lanes_more (λ r. entry_in a.self.now.m.now a.self.now.c (a.n + r) a.j) (λ r t. lane a.w.now t r *ᶠ get_or a.row.now t nan) 8 o.k o.x _ o.invariant.first c.take_eight.ensures;
      second = lanes_more (λ r. entry_in a.self.now.m.now a.self.now.c (a.n + r) (a.j + 1)) (λ r t. lane a.w.now t r *ᶠ get_or a.next.now t nan) 8 o.k o.y _ o.invariant.second c.take_eight-in-loop-k.ensures;
    }

pub returns : goal.returns
returns c = let o = c.loop-k in let e : o.k ≡ c.args.j = omega arith in (rw e at o.invariant.first, rw e at o.invariant.second)
