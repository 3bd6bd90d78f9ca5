-- Separation, as statements about the exported functions. They speak of the definitions that the functions' promises cite, so of what the functions hand out.
use Rattle.std.specs.Prelude.{ℕ, ◌*◌, ◌≤◌, ◌≡◌, Bool, List, T, length, Float}
use Rattle.definitions.specs.Refusal.{done}
use Rattle.definitions.specs.Matrix.{Matrix}
use Rattle.definitions.specs.Setup.{Lent}
use Rattle.definitions.specs.Apply.{corrected}
use Rattle.definitions.specs.Record.{record_of}
use Rattle.definitions.specs.Separation.{Apart, agree}
use Rattle.yelomawin.specs.Boundary.{options_of}
use Rattle.yelomawin.specs.Calls.{exported_setup, exported_apply}

-- `yelomawin_setup`, accepted, then two calls of `yelomawin_apply`, accepted, with the record list and the setup lists as it left them: the correction lists agree on the part afterwards.
-- The options are numbers, as the function takes them. z and z' are lent for the corrections, w and w' for work, u and u' for answers
abbrev pub SeparationOfExports : Type 0
SeparationOfExports = (a : Matrix) (size groupSize aggregation basis policy : ℕ) (lent : Lent) (numbers : List ℕ) →
    let setup = exported_setup a size groupSize aggregation basis policy lent numbers in
    setup.number ≡ 0 →
    (part : ℕ → Bool) (r r' : List Float) → Apart a (options_of size groupSize aggregation basis policy) part r r' →
    (z z' w w' : List Float) (u u' : List ℕ) →
    let run = exported_apply setup.answer setup.lists.ints setup.lists.floats r z w u in
    let run' = exported_apply setup.answer setup.lists.ints setup.lists.floats r' z' w' u' in
    run.number ≡ 0 → run'.number ≡ 0 →
    T (agree part size a.rows run.lists.result run'.lists.result)

-- and such a call is accepted, and hands out the corrected vector, wherever the lists have their lengths: 15 numbers for the record, a residual and a correction of one number a row,
-- two work floats a coarse row
abbrev pub ExportsHandOutCorrected : Type 0
ExportsHandOutCorrected = (a : Matrix) (size groupSize aggregation basis policy : ℕ) (lent : Lent) (numbers : List ℕ) →
    let setup = exported_setup a size groupSize aggregation basis policy lent numbers in
    setup.number ≡ 0 → 15 ≤ length numbers →
    (r z w : List Float) (u : List ℕ) → length r ≡ a.rows → length z ≡ a.rows → 2 * (record_of setup.answer).coarse ≤ length w →
    let run = exported_apply setup.answer setup.lists.ints setup.lists.floats r z w u in
    (run.number ≡ 0) × (corrected a (options_of size groupSize aggregation basis policy) r ≡ done run.lists.result)
