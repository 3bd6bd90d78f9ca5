-- The matrix that the definitions speak of, and the entries and the list of each node.
use Rattle.std.specs.Prelude.{List, ℕ, ◌*◌}
use Rattle.definitions.specs.Matrix.{Matrix, Entry, csr}
use Rattle.adjacency.specs.Collect.{paired}
use Rattle.adjacency.specs.Lists.{list_of}
use Rattle.adjacency.specs.WellFormed.{part_of}
use Rattle.adjacency.specs.declared.blocks.Blocks.{Blocks}

abbrev pub matrix : Blocks → Matrix
matrix a = csr (a.nodes * a.size) (a.nodes * a.size) a.row_ptr.now a.col_idx.now a.values.now

abbrev pub lists_of : Blocks → ℕ → List ℕ
lists_of a v = list_of a.strong (matrix a) a.size a.nodes v

abbrev pub entries_at : Blocks → ℕ → List Entry
entries_at a v = paired (part_of a.size v a.row_ptr.now a.col_idx.now) (part_of a.size v a.row_ptr.now a.values.now)
