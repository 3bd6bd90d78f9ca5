-- A list filled by index is a `tab`.
use Prim.Native.Nat.{◌+◌, ◌*◌, ◌%◌}
use native.Mathlib.Omega.{arith}
use Rattle.definitions.specs.Numbers.{◌+ᶠ◌, oneᶠ, ofℕ}
use Rattle.definitions.specs.Estimate.{start_of}
use Rattle.laws.proofs.Growing.{tab_none, tab_more, tab_all}
use Rattle.spectral_radius.proofs.vectors.start.Goals as goal

pub loop-k-init : goal.loop-k-init
loop-k-init c = tab_none (λ i. oneᶠ +ᶠ ofℕ ((17 * i + 11) % 101)) c.args.x.now

pub loop-k-preserved : goal.loop-k-preserved
loop-k-preserved c =
    let l = c.loop-k in
    tab_more (λ i. oneᶠ +ᶠ ofℕ ((17 * i + 11) % 101)) l.k l.x c.args.x.now c.start_at.result (omega arith) l.invariant c.start_at.ensures

pub returns : goal.returns
unfolding start_of
returns c =
    let l = c.loop-k in
    tab_all (λ i. oneᶠ +ᶠ ofℕ ((17 * i + 11) % 101)) l.k l.x c.args.x.now (omega arith) l.invariant
