-- What a call's lists must be.
use Rattle.std.specs.Prelude.{◌≡◌, List, ℕ, suc, ◌≤◌, ◌<◌, length, get_or}
use Rattle.laws.specs.Bounds.{Below}

-- offsets of n nodes' lists in `neighbours`
pub record Lists (n : ℕ) (offsets neighbours : List ℕ) : Type 0 where
  pub long : length offsets ≡ suc n
  pub start : get_or offsets 0 0 ≡ 0
  pub rises : (v : ℕ) → v < n → get_or offsets v 0 ≤ get_or offsets (suc v) 0
  pub ends : get_or offsets n 0 ≡ length neighbours
  pub within : Below n neighbours
