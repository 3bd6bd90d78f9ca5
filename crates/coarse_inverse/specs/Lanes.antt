-- Right-hand sides side by side, number k of each lane in row k: what the loops over them leave.
use Rattle.std.specs.Prelude.{ℕ, ◌+◌, ◌-◌, ◌<◌, ◌≤◌, ◌≡◌, true, List, [], map, length, get_or, replicate, Float}
use Rattle.std.specs.Float.{nan}
use Rattle.std.specs.Float.Ieee.{lt}
use Rattle.std.specs.Float.Ieee.Scale.{finite}
use Rattle.definitions.specs.Lists.{tab}
use Rattle.definitions.specs.Numbers.{◌-ᶠ◌, ◌*ᶠ◌, ◌/ᶠ◌, zeroᶠ, summed}
use Rattle.definitions.specs.Coarse.{packed_entry, packed_solve, unit}
use Rattle.laws.specs.Packed.{ahead}

-- lane r
abbrev pub lane : List (List Float) → ℕ → List Float
lane w r = map (λ row. get_or row r nan) w

-- each of m lanes of w is made from that of w₀
abbrev pub EachLane : ℕ → (List Float → List Float) → List (List Float) → List (List Float) → Type 0
EachLane m f w₀ w = (r : ℕ) → r < m → lane w r ≡ f (lane w₀ r)

-- the forward solve of b may begin at row `first`: the numbers before it stay, and no difference changes where a row's sum leaves them out
pub record Starts (l : List Float) (c first : ℕ) (b : List Float) : Type 0 where
  pub front : b ≡ ahead l b first
  pub less : (i : ℕ) → first ≤ i → i < c → get_or (ahead l b i) i nan -ᶠ summed (tab (λ k. packed_entry l i (first + k) *ᶠ get_or (ahead l b i) (first + k) nan) (i - first))
      ≡ get_or (ahead l b i) i nan -ᶠ summed (tab (λ k. packed_entry l i k *ᶠ get_or (ahead l b i) k nan) i)

abbrev pub LanesStart : ℕ → ℕ → List Float → ℕ → List (List Float) → Type 0
LanesStart m c l first w = (r : ℕ) → r < m → Starts l c first (lane w r)

-- every number of a packed factor is finite, and its diagonal is above zero
pub record Regular (c : ℕ) (l : List Float) : Type 0 where
  pub real : (k : ℕ) → k < length l → finite (get_or l k nan) ≡ true
  pub positive : (i : ℕ) → i < c → lt zeroᶠ (packed_entry l i i) ≡ true

-- for each of m lanes the sum of x k by its number first + k, for k up to n
abbrev pub lane_sums : ℕ → (ℕ → Float) → ℕ → List (List Float) → ℕ → List Float
lane_sums m x first w n = tab (λ r. summed (tab (λ k. x k *ᶠ get_or (lane w r) (first + k) nan) n)) m

-- the m numbers of a row, each less its sum, over the pivot
abbrev pub lanes_less : ℕ → List Float → List Float → Float → List Float
lanes_less m row sums pivot = tab (λ r. (get_or row r nan -ᶠ get_or sums r nan) /ᶠ pivot) m

-- the unit vectors from i on stand in the first n lanes, and zeros in the others
pub record Units (m c i n : ℕ) (w : List (List Float)) : Type 0 where
  pub long : length w ≡ c
  pub wide : (k : ℕ) → k < c → length (get_or w k []) ≡ m
  pub made : (r : ℕ) → r < n → lane w r ≡ unit c (i + r)
  pub rest : (r : ℕ) → n ≤ r → r < m → lane w r ≡ replicate c zeroᶠ

-- the solves of the unit vectors from i on stand in the first n lanes
abbrev pub Solved : ℕ → ℕ → List Float → ℕ → ℕ → List (List Float) → Type 0
Solved m c l i n w = (r : ℕ) → r < n → lane w r ≡ packed_solve c l (unit c (i + r))
