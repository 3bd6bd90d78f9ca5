-- What the checks leave of a matrix: nodes · size rows, compressed, with columns inside, and finite values where strengths are compared.
use Rattle.std.specs.Prelude.{◌≡◌, Bool, true, List, ℕ, suc, ◌+◌, ◌*◌, ◌^◌, ◌≤◌, ◌<◌, length, get_or, Float}
use Rattle.std.proofs.Math.Seq.{slice}
use Rattle.csr32.specs.Rows.{Real}
use Rattle.adjacency.specs.Collect.{Inside, Low}

pub record WellFormed (strong : Bool) (nodes size : ℕ) (ptr cols : List ℕ) (vals : List Float) : Type 0 where
  pub some : 0 < size
  pub few : nodes < 2 ^ 31
  pub short : length cols < 2 ^ 31
  pub long : length ptr ≡ nodes * size + 1
  pub both : length vals ≡ length cols
  pub rises : (i : ℕ) → i < nodes * size → get_or ptr i 0 ≤ get_or ptr (suc i) 0
  pub within : (i : ℕ) → i ≤ nodes * size → get_or ptr i 0 ≤ length cols
  pub inside : Inside nodes size cols
  pub low : Low size cols
  pub real : strong ≡ true → Real vals

-- what belongs to the entries of node v
abbrev pub part_of : {A : Type 0} → ℕ → ℕ → List ℕ → List A → List A
part_of size v ptr l = slice (get_or ptr (v * size) 0) (get_or ptr ((v + 1) * size) 0) l

-- what is known of a node's entries
pub record Named (nodes size : ℕ) (cols : List ℕ) (vals : List Float) : Type 0 where
  pub some : 0 < size
  pub both : length vals ≡ length cols
  pub inside : Inside nodes size cols
  pub low : Low size cols
