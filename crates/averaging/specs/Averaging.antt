-- What averaging in place leaves, and which pairs a part of the loops has averaged, whatever their order.
use Rattle.std.specs.Prelude.{ℕ, ◌+◌, ◌*◌, ◌<◌, ◌≤◌, ◌≡◌, List, leb, length, get_or, set, take, Float}
use Rattle.std.specs.Float.{nan}
use Rattle.definitions.specs.Numbers.{◌+ᶠ◌, ◌*ᶠ◌, half}
use Rattle.definitions.specs.Refusal.{Outcome, done, require, ◌>>=◌}
use Rattle.definitions.specs.Setup.{max_coarse}
use Rattle.definitions.specs.Coarse.{averaged_square}
use Rattle.definitions.specs.declared.Refusal.TheVariants.{CoarseTooLarge, CoarseListTooShort}

-- the matrix in the first c · c elements of m, averaged: 17, 18
unfoldable pub average_call : ℕ → List Float → Outcome (List Float)
average_call c m = do
  _ ← require (leb c max_coarse) (CoarseTooLarge c)
  _ ← require (leb (c * c) (length m)) (CoarseListTooShort c)
  done (averaged_square c (take (c * c) m))

abbrev pub pair_half : List Float → ℕ → ℕ → Float
pair_half m low up = half *ᶠ (get_or m low nan +ᶠ get_or m up nan)

abbrev pub pair_averaged : List Float → ℕ → ℕ → List Float
pair_averaged m low up = set (set m low (pair_half m low up)) up (pair_half m low up)

-- a pair is named by its lower entry (i, j), j < i: here those in rows first .. end and columns left .. right
abbrev pub Tile : ℕ → ℕ → ℕ → ℕ → ℕ → ℕ → Type 0
Tile first end left right i j = (first ≤ i) × (i < end) × (left ≤ j) × (j < right)

-- r is m with the pairs averaged that P names, and no other element changed
pub record Averages (c : ℕ) (P : ℕ → ℕ → Type 0) (m r : List Float) : Type 0 where
  pub long : length r ≡ length m
  pub low : (i j : ℕ) → j < i → i < c → P i j → get_or r (i * c + j) nan ≡ pair_half m (i * c + j) (j * c + i)
  pub up : (i j : ℕ) → j < i → i < c → P i j → get_or r (j * c + i) nan ≡ pair_half m (i * c + j) (j * c + i)
  pub other : (p : ℕ) → ((i j : ℕ) → j < i → i < c → P i j → (p ≡ i * c + j → ⊥) × (p ≡ j * c + i → ⊥)) → get_or r p nan ≡ get_or m p nan
