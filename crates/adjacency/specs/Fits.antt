-- The checks after 1 to 8: 9, 10, 12 and 13, over sizes alone.
use Rattle.std.specs.Prelude.{Bool, ◌&&◌, ℕ, ◌+◌, ◌*◌, ◌/◌, ◌%◌, eqb, leb}
use Rattle.definitions.specs.Refusal.{Checked, require, ◌>>=◌}
use Rattle.definitions.specs.Block.{max_block}
use Rattle.definitions.specs.declared.Refusal.TheVariants.{NotSquare, BlockSize, NotMultiple, ListTooShort}

unfoldable pub four : Bool → Bool → Bool → Bool → Checked
four square small multiple long = do
  _ ← require square NotSquare
  _ ← require small BlockSize
  _ ← require multiple NotMultiple
  require long ListTooShort

-- enough room before `base` for stamps and sorting, from there on for `nodes` offsets and one and the neighbours, and among the floats
unfoldable pub enough : ℕ → ℕ → ℕ → ℕ → ℕ → Bool
enough nodes entries base ints floats = leb (2 * nodes) base && leb (base + nodes + 1 + entries) ints && leb (3 * nodes) floats

unfoldable pub fits_of : ℕ → ℕ → ℕ → ℕ → ℕ → ℕ → ℕ → Checked
fits_of rows cols entries size base ints floats =
    four (eqb cols rows) (leb 1 size && leb size max_block) (eqb (rows % size) 0) (enough (rows / size) entries base ints floats)
