-- What the private functions of growth ask and give.
use Rattle.std.specs.Prelude.{◌≡◌, true, false, List, [], ◌∷◌, ◌++◌, ℕ, zero, suc, ◌+◌, eqb, length, get_or, set, take}
use Rattle.definitions.specs.Groups.{relabelled}

-- the nodes of a list that a group g with room for so many takes in: those in no group, each once
unfoldable pub enqueued : ℕ → ℕ → List ℕ → List ℕ → List ℕ
enqueued g zero ids vs = []
enqueued g (suc room) ids [] = []
enqueued g (suc room) ids (v ∷ vs) = elim (eqb (get_or ids v 0) 0) [ true ↦ v ∷ enqueued g room (set ids v g) vs | false ↦ enqueued g (suc room) ids vs ]

-- `new` joined the group g, and stands at the queue's end, which was `tail` and is `end`
pub record Pushed (new : List ℕ) (g tail : ℕ) (ids₀ ids queue₀ queue : List ℕ) (end : ℕ) : Type 0 where
  pub count : end ≡ tail + length new
  pub joined : ids ≡ relabelled g new ids₀
  pub waits : take end queue ≡ take tail queue₀ ++ new
