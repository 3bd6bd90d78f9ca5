-- Separation, as a statement about the exported functions on byte lists: of what their promises give for the bytes of their results.
use Rattle.std.specs.Prelude.{ℕ, ◌≤◌, ◌≡◌, Bool, List, T, length}
use Rattle.byte_lists.specs.Bytes.{floats_of}
use Rattle.definitions.specs.Setup.{Lent}
use Rattle.definitions.specs.Separation.{Apart, agree}
use Rattle.yelomawin.specs.Boundary.{options_of}
use Rattle.yelomawin_bytes.specs.Calls.{matrix_of}
use Rattle.yelomawin_bytes.specs.Results.{bytes_setup, bytes_apply}

-- `yelomawin_bytes_setup`, accepted, with room for the record's 15 numbers, then two calls of `yelomawin_bytes_apply`, accepted, with the bytes of the record and of the setup lists as it
-- left them: the correction bytes spell numbers that agree on the part. The residuals are what their bytes x and x' spell; z and z' are lent for the corrections
abbrev pub SeparationOfByteExports : Type 0
SeparationOfByteExports = (rows cols : ℕ) (row_ptr col_idx values : List ℕ) (size groupSize aggregation basis policy : ℕ) (lent : Lent) (room ints floats numbers : List ℕ) (fits : Bool) →
    let a = matrix_of rows cols row_ptr col_idx values in
    let setup = bytes_setup fits a size groupSize aggregation basis policy lent room ints floats numbers in
    setup.number ≡ 0 → 15 ≤ length room →
    (part : ℕ → Bool) (x x' : List ℕ) → Apart a (options_of size groupSize aggregation basis policy) part (floats_of x) (floats_of x') →
    (z z' : List ℕ) (n n' w w' : ℕ) (fit fit' : Bool) →
    let run = bytes_apply fit setup.numbers setup.ints setup.floats x n w z in
    let run' = bytes_apply fit' setup.numbers setup.ints setup.floats x' n' w' z' in
    run.number ≡ 0 → run'.number ≡ 0 →
    T (agree part size rows (floats_of run.correction) (floats_of run'.correction))
