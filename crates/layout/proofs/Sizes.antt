-- What small numbers leave of products, and where the parts of a record with small numbers stand.
use Prim.Native.Nat.{ℕ, ◌+◌, ◌*◌, ◌≤◌}
use native.Mathlib.Nat.{mul-le-mul}
use mathlib.Core.Path.{◌≡◌}
use borrow.Author.Tests.{le-leb}
use Rattle.definitions.specs.Places.{places_of, used_ints, used_floats}
use Rattle.definitions.specs.declared.Places.{Places}
use Rattle.definitions.specs.declared.Setup.{Setup}
use Rattle.layout.specs.Layout.{placeable, layout_of}

-- ---- what callers use

-- a record whose numbers are within their limits has its parts where the definitions say
pub placed : (s : Setup) → s.nodes ≤ 1_048_576 → s.rows ≤ 1_048_576 → s.block ≤ 8 → s.transfers ≤ 17_825_792 → s.coarse ≤ 2_048 → layout_of s ≡ places_of s
unfolding layout_of placeable
placed s n r b t c = rw (le-leb s.nodes 1_048_576 n, le-leb s.rows 1_048_576 r, le-leb s.block 8 b, le-leb s.transfers 17_825_792 t, le-leb s.coarse 2_048 c, layout_of)

-- a coarse dimension times itself or the next
pub square_fits : (c d : ℕ) → c ≤ 2048 → d ≤ 2049 → c * d ≤ 4_196_352
square_fits c d h k = mul-le-mul h k

pub whole_fits : (c : ℕ) → c ≤ 2048 → c * c ≤ 4_194_304
whole_fits c h = mul-le-mul h h

-- the offsets, one by one
pub record At (s : Setup) (p : Places) : Type 0 where
  pub pointers : p.pointers ≡ s.nodes
  pub columns : p.columns ≡ s.nodes + s.rows + 1
  pub ints : p.ints ≡ used_ints s.basis s
  pub weights : p.weights ≡ s.rows * s.block
  pub coarse : p.coarse ≡ s.rows * s.block + s.transfers
  pub floats : p.floats ≡ used_floats s

pub at : (s : Setup) (p : Places) → p ≡ places_of s → At s p
unfolding used_floats
at s p e = record { pointers = rw e; columns = rw e; ints = rw e; weights = rw e; coarse = rw e; floats = rw e }
