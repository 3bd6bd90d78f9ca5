-- What a place holds after a step that fills it, or is refused and leaves it.
use Rattle.std.specs.Prelude.{ℕ, ◌+◌, ◌*◌, ◌≡◌, List, take, drop, Float}
use Rattle.definitions.specs.Refusal.{Outcome, refused, done}
use Rattle.definitions.specs.Matrix.{Matrix}
use Rattle.definitions.specs.Block.{block_factor}

unfoldable pub held : {A : Type 0} → Outcome (List A) → List A → List A
held (done l) lent = l
held (refused r) lent = lent

-- the factors of the blocks from the rows first and first + w on, one after the other
pub record PairIn (m : Matrix) (first w : ℕ) (place : List Float) : Type 0 where
  pub one : block_factor m first w ≡ done (take (w * w) place)
  pub two : block_factor m (first + w) w ≡ done (drop (w * w) place)
