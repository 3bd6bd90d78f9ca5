-- A column of a packed factor that is kept at its rows: a walk down the column after it leaves it there.
use Prim.Native.Nat.{ℕ, ◌+◌, ◌-◌, ◌<◌, ◌≤◌}
use mathlib.Core.Path.{◌≡◌, refl, ◌∙◌}
use mathlib.Core.List.{List}
use native.Mathlib.Omega.{arith}
use native.Mathlib.Decide.{ℕ_discrete}
use lib.ListN.{length, get_or, set, length-set}
use lib.Seq.{get_or-set_same, get_or-set_other}
use lib.Ieee.{Float, nan}
use Rattle.definitions.specs.Coarse.{packed, packed_entry, packed_length}
use Rattle.definitions.specs.Setup.{max_coarse}
use Rattle.laws.specs.Packed.{Column, KeptBefore}
use Rattle.laws.proofs.Growing.{upto}
use Rattle.laws.proofs.Packed.{tri_row, tri_back, triangle_small}

-- ---- the walk

-- both numbers that it reads at row j are the factor's
pub walk_room : (at i j c : ℕ) → i < j → j < c → c ≤ max_coarse → at ≡ packed j i → (0 < at) × (at < packed_length c) × (packed_length c < 2_098_177)
walk_room at i j c p q h e = (omega (arith, tri_row i j p), omega (arith, tri_row j c q), omega (arith, triangle_small c h))

-- and so are those at the end of row i
pub end_room : (end i c : ℕ) → i < c → c ≤ max_coarse → end ≡ packed_length (i + 1) → (i < end) × (end ≤ packed_length c) × (packed_length c < 2_098_177)
end_room end i c q h e = let z = (tri_back end i e).0 in (omega arith, omega (arith, tri_row i c q), omega (arith, triangle_small c h))

pub kept_none : (l kept : List Float) (i : ℕ) → KeptBefore l i (i + 1) kept kept
kept_none l kept i = record { long = refl; before = λ j p q. absurd (omega arith) }

pub kept_more : (l kept₀ kept : List Float) (i j at : ℕ) → j < length kept₀ → at ≡ packed j i → KeptBefore l i j kept₀ kept → KeptBefore l i (j + 1) kept₀ (set kept j (get_or l (at - 1) nan))
kept_more l kept₀ kept i j at h ea k =
    record {
      long = simp length-set k.long;
      before = λ m p q. upto (λ n. i < n → get_or (set kept j x) n nan ≡ get_or l (packed n i - 1) nan) j
          (λ n r b. get_or-set_other kept j n x nan (λ e. omega arith) ∙ k.before n b r)
          (λ b. get_or-set_same kept j x nan (omega (arith, k.long)) ∙ rw ea) m q p;
    }
  where
    x : Float
    x = get_or l (at - 1) nan

-- with what stands before the pivot, the column before i
pub kept_column : (l kept₀ kept : List Float) (i c end : ℕ) → 0 < i → i < length kept₀ → end ≡ packed_length (i + 1) → KeptBefore l i c kept₀ kept → Column l (i - 1) c (set kept i (get_or l (end - 2) nan))
kept_column l kept₀ kept i c end h n e k j p q = step (ℕ_discrete j i)
  where
    x : Float
    x = get_or l (end - 2) nan

    step : Dec (j ≡ i) → get_or (set kept i x) j nan ≡ packed_entry l j (i - 1)
    step (yes r) =
        let z : end - 2 ≡ packed i (i - 1) = omega (arith, (tri_back end i e).0) in
        rw r (get_or-set_same kept i x nan (omega (arith, k.long)) ∙ rw z)
    step (no d) =
        let z : packed j i - 1 ≡ packed j (i - 1) = omega arith in
        get_or-set_other kept i j x nan d ∙ k.before j (omega arith) q ∙ rw z
