-- Bytes put into a list from a place on, as far as the list goes.
use Rattle.std.specs.Prelude.{◌≡◌, List, [], ◌∷◌, ◌++◌, ℕ, suc, ◌+◌, min, length}
use Rattle.std.proofs.lemmas.List.Edits.{sets}
use Rattle.definitions.specs.Text.{line, decimal}

pub record Puts (out₀ : List ℕ) (at : ℕ) (bytes out : List ℕ) (r : ℕ) : Type 0 where
  pub list : out ≡ sets out₀ at bytes
  pub end : r ≡ min (at + length bytes) (length out₀)

-- a line for each node from v on
unfoldable pub lines_from : ℕ → List ℕ → List ℕ
lines_from v [] = []
lines_from v (x ∷ xs) = line (decimal v) (decimal x) ++ lines_from (suc v) xs
