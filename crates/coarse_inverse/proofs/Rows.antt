-- The rows of the inverse, one after the other in a list.
use Prim.Native.Nat.{ℕ, zero, suc, ◌+◌, ◌-◌, ◌*◌, ◌<◌, ◌≤◌}
use mathlib.Core.Path.{◌≡◌, refl, ap, sym, ◌∙◌}
use mathlib.Core.Bool.{cond}
use mathlib.Core.List.{List, ◌++◌, flat_map, append_assoc}
use native.Mathlib.Omega.{arith}
use native.Mathlib.Numerals.{add-one}
use native.Mathlib.Decide.{ℕ_discrete}
use lib.Dec.{eqb}
use lib.ListN.{length, get_or, set, take, drop, replicate, length-set, length-replicate, get_or-replicate, length-append, length-drop}
use lib.Seq.{get_or-set_same, get_or-set_other, take_at, drop_at, drop-drop}
use lib.Ieee.{Float, nan}
use borrow.Author.Tests.{eq-eqb, ne_eqb}
use Rattle.definitions.specs.Lists.{tab, up_to, padded}
use Rattle.definitions.specs.Numbers.{zeroᶠ, oneᶠ}
use Rattle.definitions.specs.Coarse.{packed_solve, unit, inverse_of}
use Rattle.definitions.specs.Setup.{max_coarse}
use Rattle.definitions.specs.Refusal.{result_left}
use Rattle.averaging.specs.Averaging.{average_call}
use Rattle.averaging.proofs.Laws.{average_fits}
use Rattle.laws.proofs.Lists.{tab_is}
use Rattle.laws.proofs.Growing.{tab_snoc, flat_map_snoc}
use Rattle.laws.proofs.Packed.{length_solve}
use Rattle.coarse_inverse.specs.Rows.{solved_rows}

pub unit_of : (c i : ℕ) → i < c → set (replicate c zeroᶠ) i oneᶠ ≡ unit c i
unfolding unit
unit_of c i h = tab_is nan (set (replicate c zeroᶠ) i oneᶠ) (λ j. cond (eqb j i) oneᶠ zeroᶠ) c (length-set (replicate c zeroᶠ) i oneᶠ ∙ length-replicate c zeroᶠ) (λ j q. step j q (ℕ_discrete j i))
  where
    step : (j : ℕ) → j < c → Dec (j ≡ i) → get_or (set (replicate c zeroᶠ) i oneᶠ) j nan ≡ cond (eqb j i) oneᶠ zeroᶠ
    step j q (yes e) = rw (e, eq-eqb i i refl) (get_or-set_same (replicate c zeroᶠ) i oneᶠ nan (rw (length-replicate c zeroᶠ) h))
    step j q (no d) = rw (ne_eqb j i d) (get_or-set_other (replicate c zeroᶠ) i j oneᶠ nan d ∙ get_or-replicate c j zeroᶠ nan q)

module _ (c : ℕ) (l : List Float) where
  pub solved_none : (w : List Float) (k : ℕ) → k ≡ 0 → w ≡ solved_rows c l k ++ drop (k * c) w
  unfolding solved_rows up_to tab flat_map
  solved_none w k e = let z : 0 * c ≡ 0 = omega arith in rw (e, z)

  pub solved_snoc : (i : ℕ) → solved_rows c l (suc i) ≡ solved_rows c l i ++ packed_solve c l (unit c i)
  unfolding solved_rows up_to
  solved_snoc i = rw (tab_snoc (λ k. k) i) (flat_map_snoc (λ k. packed_solve c l (unit c k)) (tab (λ k. k) i) i)

  pub length_solved : (i : ℕ) → length (solved_rows c l i) ≡ i * c
  unfolding solved_rows up_to tab flat_map
  length_solved zero = omega arith
  length_solved (suc i) = ap length (solved_snoc i) ∙ length-append (solved_rows c l i) (packed_solve c l (unit c i)) ∙ rw (length_solved i, length_solve c l (unit c i)) (omega arith)

  -- a row more, put in place of what lay there
  pub solved_more : (w u r : List Float) (i from to : ℕ) → from ≡ i * c → to ≡ from + c → u ≡ solved_rows c l i ++ drop (i * c) w → r ≡ packed_solve c l (unit c i)
      → take from u ++ (r ++ drop (to - from) (drop from u)) ≡ solved_rows c l (i + 1) ++ drop ((i + 1) * c) w
  solved_more w u r i from to ef et eu er =
      let k : to - from ≡ c = omega arith in
      let t : take (i * c) u ≡ solved_rows c l i = rw eu (take_at (solved_rows c l i) (drop (i * c) w) (i * c) (length_solved i)) in
      let d : drop (i * c) u ≡ drop (i * c) w = rw eu (drop_at (solved_rows c l i) (drop (i * c) w) (i * c) (length_solved i)) in
      let s : (i + 1) * c ≡ i * c + c = omega arith in
      rw (k, ef, t, d, drop-drop c (i * c) w, er, s, add-one, solved_snoc i) (sym (append_assoc (solved_rows c l i) (packed_solve c l (unit c i)) (drop (i * c + c) w)))

-- all rows, averaged, and zeros after them
pub invert_law : (c : ℕ) (l w u v : List Float) → c ≤ max_coarse → c * c ≤ length w → u ≡ solved_rows c l c ++ drop (c * c) w → v ≡ result_left zeroᶠ (average_call c u) u → v ≡ padded zeroᶠ (length w) (inverse_of c l)
unfolding inverse_of solved_rows
invert_law c l w u v h k eu ev =
    let s = flat_map (λ i. packed_solve c l (unit c i)) (up_to c) in
    let ns : length s ≡ c * c = length_solved c l c in
    let nu : length u ≡ length w = ap length eu ∙ length-append s (drop (c * c) w) ∙ rw (ns, length-drop (c * c) w) (omega arith) in
    let t : take (c * c) u ≡ s = rw eu (take_at s (drop (c * c) w) (c * c) ns) in
    ev ∙ average_fits c u h (omega arith) ∙ rw (t, nu)
