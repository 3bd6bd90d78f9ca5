-- A strength is never NaN and has no sign: squares and their sums, roots, and quotients by a divisor above zero stay so.
use mathlib.Core.Path.{◌≡◌, refl}
use mathlib.Core.Bool.{Bool, true, false, cond}
use mathlib.Core.List.{List, [], ◌∷◌, foldl}
use Prim.Native.Nat.{ℕ, zero, suc, ◌+◌, ◌-◌, ◌*◌, ◌/◌, ◌%◌, ◌^◌, compare}
use native.Mathlib.Nat.{zero-mul}
use borrow.Author.Tests.{le-ltb, ne_eqb}
use native.Mathlib.Omega.{arith}
use lib.Dec.{eqb, ltb}
use lib.IntN.{ℤ}
use lib.ListN.{set}
use lib.Ieee.{Float, nan, inf, fin, Format, binary64, prec, emax, low, size, nearest, odd, units, round, sum, add, mul, div, lt, up, down, of_bits}
use lib.Ieee.Scale.{finite}
use Rattle.definitions.specs.Root.{root, rounded, radicand, Located, locate_root}
use Rattle.definitions.specs.Numbers.{◌+ᶠ◌, ◌*ᶠ◌, ◌/ᶠ◌, rootᶠ, zeroᶠ, squared}
use Rattle.definitions.specs.Neighbours.{divides}
use Rattle.laws.proofs.Lists.{Each, each_head, each_tail}
use Rattle.adjacency.specs.Strengths.{plain, AllPlain, strong_of}
use Rattle.adjacency.proofs.Laws.{by_case}

odd_plain : (d q k l : ℕ) → plain (odd d false q k l) ≡ true
unfolding odd plain
odd_plain d zero k l = refl
odd_plain d (suc q) k l = refl

cond_plain : (b : Bool) (x y : Float) → plain x ≡ true → plain y ≡ true → plain (cond b x y) ≡ true
cond_plain true x y p q = p
cond_plain false x y p q = q

inf_plain : plain (inf false) ≡ true
unfolding plain
inf_plain = refl

units_plain : (f : Format) (q k : ℕ) → plain (units f false q k) ≡ true
unfolding units
units_plain f q k = cond_plain (ltb (q * 2 ^ k) (2 ^ (low f + suc (emax f)))) (odd (suc (prec f)) false q k (low f)) (inf false) (odd_plain (suc (prec f)) q k (low f)) inf_plain

round_plain : (f : Format) (n d : ℕ) → plain (round f false n d) ≡ true
unfolding round
round_plain f n d =
    let k = size (n * 2 ^ low f / d) - prec f in
    let u = d * 2 ^ k in
    units_plain f (nearest (n * 2 ^ low f / u) (compare (n * 2 ^ low f % u * 2) u)) k

never : {C : Type 0} {b : Bool} → b ≡ true → b ≡ false → C
never p q = absurd (let z : ◌≡◌ {A = ℕ} 0 1 = cc in omega arith)

pub plain_add : (x y : Float) → plain x ≡ true → plain y ≡ true → plain (x +ᶠ y) ≡ true
unfolding add sum plain
plain_add nan y p q = never p refl
plain_add (inf true) y p q = never p refl
plain_add (inf false) nan p q = never q refl
plain_add (inf false) (inf true) p q = never q refl
plain_add (inf false) (inf false) p q = refl
plain_add (inf false) (fin t n d) p q = refl
plain_add (fin true m e) y p q = never p refl
plain_add (fin false m e) nan p q = never q refl
plain_add (fin false m e) (inf true) p q = never q refl
plain_add (fin false m e) (inf false) p q = refl
plain_add (fin false m e) (fin true n d) p q = never q refl
plain_add (fin false m e) (fin false n d) p q = round_plain binary64 (m * up e * down d + n * up d * down e) (down e * down d)

pub plain_square : (x : Float) → finite x ≡ true → plain (squared x) ≡ true
unfolding mul plain
plain_square nan p = never p refl
plain_square (inf s) p = never p refl
plain_square (fin true m e) p = round_plain binary64 (m * up e * (m * up e)) (down e * down e)
plain_square (fin false m e) p = round_plain binary64 (m * up e * (m * up e)) (down e * down e)

rounded_plain : (f : Format) (l : Located) → plain (rounded f false l) ≡ true
unfolding rounded
rounded_plain f l = units_plain f (nearest l.kept l.side) l.dropped

pub plain_root : (x : Float) → plain x ≡ true → plain (rootᶠ x) ≡ true
unfolding root plain
plain_root nan p = never p refl
plain_root (inf true) p = never p refl
plain_root (inf false) p = refl
plain_root (fin true m e) p = never p refl
plain_root (fin false zero e) p = refl
plain_root (fin false (suc m) e) p = rounded_plain binary64 (locate_root binary64 (radicand binary64 (suc m) e))

-- a divisor that is finite and above zero
above_zero : (s : Bool) (m : ℕ) (e : ℤ) → lt zeroᶠ (fin s m e) ≡ true → (s ≡ false) × (eqb m 0 ≡ false)
unfolding lt of_bits
above_zero true m e h = never h refl
above_zero false zero e h = never h (le-ltb (0 * down e) (0 * up e * 1) (omega (arith, zero-mul (down e), zero-mul (up e))))
above_zero false (suc m) e h = (refl, ne_eqb (suc m) 0 (λ z. omega arith))

pub plain_div : (x d : Float) → plain x ≡ true → divides d ≡ true → plain (x /ᶠ d) ≡ true
unfolding div plain divides
plain_div x nan p q = never q refl
plain_div x (inf s) p q = never q refl
plain_div nan (fin t n d) p q = never p refl
plain_div (inf true) (fin t n d) p q = never p refl
plain_div (inf false) (fin t n d) p q = let a = above_zero t n d q in rw a.0
plain_div (fin true m e) (fin t n d) p q = never p refl
plain_div (fin false m e) (fin t n d) p q = let a = above_zero t n d q in rw (a.0, a.1) (round_plain binary64 (m * up e * down d) (n * up d * down e))

-- however the norms multiply
pub plain_strong : (s p q : Float) → plain s ≡ true → plain (strong_of s p q) ≡ true
unfolding strong_of
plain_strong s p q h = by_case (divides (rootᶠ (p *ᶠ q)))
    (λ e. rw (strong_of, e) (plain_div (rootᶠ s) (rootᶠ (p *ᶠ q)) (plain_root s h) e))
    (λ e. rw (strong_of, e) (plain_root s h))

-- ---- lists

pub plain_zero : plain zeroᶠ ≡ true
unfolding plain of_bits
plain_zero = refl

pub plain_set : (l : List Float) (i : ℕ) (x : Float) → AllPlain l → plain x ≡ true → AllPlain (set l i x)
plain_set [] i x a h k = a k
plain_set (y ∷ l) zero x a h zero = h
plain_set (y ∷ l) zero x a h (suc k) = a (suc k)
plain_set (y ∷ l) (suc i) x a h zero = a zero
plain_set (y ∷ l) (suc i) x a h (suc k) = plain_set l i x (λ j. a (suc j)) h k

-- the sum of plain numbers
pub plain_total : (xs : List Float) (s : Float) → plain s ≡ true → Each (λ x. plain x ≡ true) xs → plain (foldl (λ s x. s +ᶠ x) s xs) ≡ true
plain_total [] s h e = h
plain_total (x ∷ xs) s h e = plain_total xs (s +ᶠ x) (plain_add s x h (each_head e)) (each_tail e)
