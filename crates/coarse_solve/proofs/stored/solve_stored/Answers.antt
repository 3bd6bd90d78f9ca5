use Rattle.std.proofs.Common.{◌≡◌, ◌-◌, ◌∙◌, sym, length, arith, take, drop, length-append, length-take-le}
use Rattle.definitions.specs.Coarse.{coarse_solve}
use Rattle.numbers.proofs.Over.{copied_whole}
use Rattle.coarse_solve.proofs.ByPolicy.{factor_length, factor_solve, inverse_length, front_solved, padded_by}
use Rattle.coarse_solve.proofs.stored.solve_stored.Goals as goal
use Rattle.coarse_solve.proofs.stored.solve_stored.Goals.{in-Auto, in-ExplicitInverse}

pub invariant_of-solve : goal.invariant_of-solve
invariant_of-solve c = let a = c.args in record { whole = c.requires.0 ∙ factor_length a.policy a.c c.in-Auto.is; few = c.requires.2 }

pub by_inverse-requires : goal.by_inverse-requires
by_inverse-requires c =
    let a = c.args in
    let n = c.split_at_mut-b.ensures.front_len in
    (rw n (c.requires.0 ∙ inverse_length a.policy a.c c.in-ExplicitInverse.is), rw n (length-take-le a.c c.split_at_mut-b.result.1.now (omega (arith, c.split_at_mut-b.ensures.back_len))), omega (arith, n))

pub returns : goal.returns
returns c =
    let a = c.args in
    let m = c.match-policy in
    let f = c.split_at_mut-b.ensures in
    let b : m.b ≡ coarse_solve a.policy a.c a.part.now (take a.c a.work.now) = elim m.branch [
      | in-Auto w ↦ w.b-is ∙ w.solve.ensures ∙ rw f.front (factor_solve a.policy a.c a.part.now (take a.c a.work.now) w.in-Auto.is)
      | in-ExplicitInverse w ↦ w.b-is ∙ w.copy_front.ensures ∙ copied_whole _ _ (length-take-le a.c _ (omega (arith, length-append w.by_inverse.new.x (drop a.c c.split_at_mut-b.result.1.now), length-take-le a.c c.split_at_mut-b.result.1.now (omega (arith, f.back_len)), w.by_inverse.auto.x)) ∙ sym f.front_len)
          ∙ front_solved a.policy a.c a.part.now c.split_at_mut-b.result.0.now (take a.c a.work.now) w.by_inverse.new.x _ _ w.in-ExplicitInverse.is f.front (omega (arith, length-take-le a.c c.split_at_mut-b.result.1.now (omega (arith, f.back_len)))) f.front_len w.by_inverse.ensures
    ] in
    let n : length m.rest ≡ length a.work.now - a.c = omega (arith, f.back_len) in
    padded_by (length a.work.now) a.c m.b _ c.fill.new.self b (omega (arith, f.front_len)) (rw n at (c.fill.ensures.after (λ y e. e)))
