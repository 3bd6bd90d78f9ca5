-- By cases on the first check that fails; past all of them the lists are built.
use Rattle.std.proofs.Common.{◌≡◌, ◌∙◌, refl, arith}
use Rattle.std.proofs.lemmas.Result.{err_from_is_err_and}
use Rattle.csr32.specs.Seen.{lent}
use Rattle.adjacency.specs.Within.{compares}
use Rattle.adjacency.proofs.Calling.{not_valid, small, not_fitting, size_low, size_high, formed, rooms, built, compares_strong, compares_not}
use Rattle.adjacency.proofs.neighbours.Goals.{in-StrongGraph, in_default}
use Rattle.adjacency.proofs.neighbours.Goals as goal

pub returns-in_err-readable : goal.returns-in_err-readable
returns-in_err-readable c =
    let b = c.args in
    let p = err_from_is_err_and c.from_residual.result c.from_residual.ensures.1 in
    rw (p.1, p.2) (not_valid b.aggregation (lent b.a.now) b.block_size b.base b.work_ints.now b.work_floats.now _ c.in_err-readable.ensures _ refl)

pub fits-requires : goal.fits-requires
fits-requires c = let b = c.args in small b.aggregation (lent b.a.now) b.block_size b.base b.work_ints.now b.work_floats.now _ c.in_ok-readable.ensures refl

pub returns-in_err-fits : goal.returns-in_err-fits
returns-in_err-fits c =
    let b = c.args in
    let p = err_from_is_err_and c.from_residual-in_err-fits.result c.from_residual-in_err-fits.ensures.1 in
    rw (p.1, p.2) (not_fitting b.aggregation (lent b.a.now) b.block_size b.base b.work_ints.now b.work_floats.now _ c.in_ok-readable.ensures refl _ c.in_err-fits.ensures _ refl)

pub overflow_cast-size : goal.overflow_cast-size
overflow_cast-size c = let b = c.args in omega (arith, size_high b.aggregation (lent b.a.now) b.block_size b.base b.work_ints.now b.work_floats.now _ c.in_ok-readable.ensures refl _ c.in_ok-fits.ensures refl)

pub reciprocal_of-requires : goal.reciprocal_of-requires
reciprocal_of-requires c = let b = c.args in omega (arith, size_low b.aggregation (lent b.a.now) b.block_size b.base b.work_ints.now b.work_floats.now _ c.in_ok-readable.ensures refl _ c.in_ok-fits.ensures refl)

pub nonzero_div-blocks : goal.nonzero_div-blocks
nonzero_div-blocks c = let b = c.args in omega (arith, size_low b.aggregation (lent b.a.now) b.block_size b.base b.work_ints.now b.work_floats.now _ c.in_ok-readable.ensures refl _ c.in_ok-fits.ensures refl)

pub invariant_of-blocks-clause-fit : goal.invariant_of-blocks-clause-fit
invariant_of-blocks-clause-fit c =
    let b = c.args in
    let m : c.match-matches.matches ≡ compares b.aggregation = elim c.match-matches.branch [ in-StrongGraph w ↦ w.matches-is ∙ compares_strong b.aggregation w.in-StrongGraph.is | in_default w ↦ w.matches-is ∙ compares_not b.aggregation w.in_default.not-StrongGraph ] in
    formed b.aggregation (lent b.a.now) b.block_size b.base b.work_ints.now b.work_floats.now _ c.in_ok-readable.ensures refl _ c.in_ok-fits.ensures refl c.match-matches.matches m

pub build-requires-clause-strong : goal.build-requires-clause-strong
build-requires-clause-strong c = let b = c.args in elim c.match-matches.branch [ in-StrongGraph w ↦ w.matches-is ∙ compares_strong b.aggregation w.in-StrongGraph.is | in_default w ↦ w.matches-is ∙ compares_not b.aggregation w.in_default.not-StrongGraph ]

pub build-requires-clause-nodes_bound : goal.build-requires-clause-nodes_bound
build-requires-clause-nodes_bound c = let b = c.args in let r = rooms b.aggregation (lent b.a.now) b.block_size b.base b.work_ints.now b.work_floats.now _ c.in_ok-readable.ensures refl _ c.in_ok-fits.ensures refl in (r.0, r.1.0, r.1.1)

pub returns : goal.returns
returns c = let b = c.args in built b.aggregation (lent b.a.now) b.block_size b.base b.work_ints.now b.work_floats.now _ c.in_ok-readable.ensures refl _ c.in_ok-fits.ensures refl c.build.new.work_ints c.build.new.work_floats c.build.ensures.work_ints_after c.build.ensures.work_floats_after
