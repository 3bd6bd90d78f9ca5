-- What an accepted call is about.
use Rattle.std.specs.Prelude.{ℕ, ◌+◌, ◌*◌, ◌≤◌, ◌≡◌, List, length, Float}
use Rattle.definitions.specs.Matrix.{Matrix}
use Rattle.csr32.specs.Seen.{square}
use Rattle.transfer.specs.declared.smoothing.Smoothing.{Smoothing}

-- the parts are those of the call, and the lists lent have room for pointers, columns, weights and a row of sums
pub record Accepts (a : Matrix) (size : ℕ) (ids : List ℕ) (groups : ℕ) (d : List Float) (damping : Float) (ints floats : ℕ) (s : Smoothing) : Type 0 where
  pub matrix : square s.a ≡ a
  pub block : s.groups.size ≡ size
  pub names : s.groups.ids.now ≡ ids
  pub coarse : s.groups.coarse ≡ groups * size
  pub diagonal : s.diagonal.now ≡ d
  pub factor : s.damping ≡ damping
  pub ints_room : a.rows + 1 + (a.rows + length a.values) + s.groups.coarse ≤ ints
  pub floats_room : a.rows + length a.values + s.groups.coarse ≤ floats
