-- The calls one after another: what each ensures is what `assembled` asks for.
use mathlib.Core.Path.{◌≡◌, sym, ap, ap₂, ◌∙◌, subst}
use Prim.Native.Nat.{ℕ, ◌+◌, ◌*◌, ◌^◌, ◌≤◌, ◌<◌}
use native.Mathlib.Nat.{lt_of_lt_of_le}
use native.Mathlib.Omega.{arith}
use lib.Dec.{lit≤}
use lib.IntN.{ℤ}
use lib.Signed.{mag}
use Rattle.laws.specs.WholeRoot.{Rest, closer}
use Rattle.root.specs.Fields.{Split, odd_bit, half, raised}
use Rattle.root.proofs.Exponent.{again, again_is, half_small, odd_small}
use Rattle.root.proofs.Assembled.{Evened, evened, closer_least, closer_most, assembled}
use Rattle.root.proofs.root_bits.Goals as goal

wide : (b m : ℕ) (e : ℤ) (a : ℕ) → Split b m e → a ≡ m * 2 ^ odd_bit e → Evened a
wide b m e a S h = evened m (odd_bit e) a S.least S.most (odd_small e) h

-- the half is an i32, written to bits and read again
half_own : (e h : ℤ) → mag e < 1100 → h ≡ half e → again h ≡ half e
half_own e h l p = ap again p ∙ again_is (half e) (lt_of_lt_of_le (half_small e l) (lit≤ tt))

range : (a c r q : ℕ) → Evened a → Rest (a * 2 ^ 52) c r → q ≡ closer c r → (2 ^ 52 ≤ q) × (q < 2 ^ 53)
range a c r q E R e = (subst (λ (x : ℕ). 2 ^ 52 ≤ x) (sym e) (closer_least a c r E R), subst (λ (x : ℕ). x < 2 ^ 53) (sym e) (closer_most a c r E R))

pub with_rest-r-requires : goal.with_rest-r-requires
with_rest-r-requires c =
    let E = wide _ _ _ _ c.of-s.ensures c.evened.ensures in
    let g = E.most in
    (E.least, omega arith)

pub rebuilt-requires : goal.rebuilt-requires
rebuilt-requires c =
    let S = c.of-s.ensures in
    let q = range _ _ _ _ (wide _ _ _ _ S c.evened.ensures) c.with_rest-r.ensures c.nearest.ensures in
    (subst (λ (y : ℤ). mag y < 600) (sym (half_own _ _ S.near c.halved.ensures)) (half_small c.of-s.result.e S.near), q.0, q.1)

pub returns : goal.returns
returns c =
    let S = c.of-s.ensures in
    assembled _ _ _ _ _ _ c.rebuilt.result c.requires.0 c.requires.1 S c.evened.ensures c.with_rest-r.ensures
    (c.rebuilt.ensures ∙ ap₂ (λ (y : ℤ) (x : ℕ). raised 1022 y * 2 ^ 52 + x) (half_own _ _ S.near c.halved.ensures) c.nearest.ensures)
