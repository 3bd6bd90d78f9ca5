-- Each column is finished before it is put.
use native.Mathlib.Omega.{arith}
use lib.ListN.{length-set}
use Rattle.definitions.specs.Coarse.{entry_in}
use Rattle.coarse_factor.proofs.Fronts.{fronts_two}
use Rattle.coarse_factor.proofs.factor.Square.put_columns.Goals as goal

pub returns : goal.returns
returns c =
    let a = c.args in
    let b = c.pair_rest in (
      simp length-set c.requires.2,
      λ f. fronts_two (entry_in a.self.now.m.now a.self.now.c) a.factor.now.l.now _ _ a.w.now b.result.0 b.result.1 _ _ _ a.n a.j (omega arith)
          (c.row-row.ensures.entries (omega arith)) (c.row-next.ensures.entries (omega arith)) b.ensures.0 b.ensures.1 c.over-first.ensures c.take_eight.ensures c.over.ensures f,
    )
