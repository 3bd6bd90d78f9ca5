-- Whether all sizes fit, one bound after the other.
use Rattle.std.specs.Prelude.{Result, is_ok}
use mathlib.Core.Path.{◌≡◌, refl, sym, ◌∙◌}
use mathlib.Core.Bool.{Bool, true, false}
use Prim.Native.Nat.{ℕ, ◌/◌, ◌<◌, ◌≤◌}
use borrow.Author.Tests.{le-leb, lt-leb}
use Rattle.definitions.specs.Refusal.{Checked, refused, done}
use Rattle.definitions.specs.Matrix.{max_rows, max_entries}
use Rattle.definitions.specs.Answers.{answer_of}
use Rattle.definitions.specs.declared.Refusal.{Refusal}
use Rattle.two_level_grouping.specs.Front.{shape_of, shape_least}
use Rattle.two_level_grouping.specs.Calls.{has_room, passes, sizes_fit}

pub passes_done : (o : Checked) → passes o ≡ true → o ≡ done tt
unfolding passes
passes_done (done tt) e = refl
passes_done (refused r) e = cc

answer_passes : (o : Checked) → is_ok (answer_of o) ≡ passes o
unfolding passes answer_of
answer_passes (done tt) = refl
answer_passes (refused r) = refl

module _ (rows cols entries block group room workRoom floatRoom : ℕ) where
  abbrev fit : Bool
  fit = sizes_fit rows cols entries block group room workRoom floatRoom

  pub many_rows : max_rows < rows → false ≡ fit
  unfolding sizes_fit
  many_rows h = rw (lt-leb rows max_rows h)

  module _ (h1 : rows ≤ max_rows) where
    pub many_cols : max_rows < cols → false ≡ fit
    unfolding sizes_fit
    many_cols h = rw (le-leb rows max_rows h1, lt-leb cols max_rows h)

    module _ (h2 : cols ≤ max_rows) where
      pub many_entries : max_entries < entries → false ≡ fit
      unfolding sizes_fit
      many_entries h = rw (le-leb rows max_rows h1, le-leb cols max_rows h2, lt-leb entries max_entries h)

      -- by the shape's answer
      module _ (h3 : entries ≤ max_entries) (x : Result (Unit {0}) Refusal) (ex : x ≡ answer_of (shape_of rows cols block group)) (b : Bool) (eb : b ≡ is_ok x) where
        shaped : passes (shape_of rows cols block group) ≡ b
        shaped = sym (answer_passes (shape_of rows cols block group)) ∙ rw (eb, ex)

        pub misshapen : b ≡ false → b ≡ fit
        unfolding sizes_fit
        misshapen e = rw (le-leb rows max_rows h1, le-leb cols max_rows h2, le-leb entries max_entries h3, shaped, e)

        module _ (e : b ≡ true) where
          pub shaped_least : 1 ≤ block
          shaped_least = shape_least rows cols block group (passes_done _ (shaped ∙ e))

          pub shaped_fit : (t : Bool) → t ≡ has_room (rows / block) entries room workRoom floatRoom → t ≡ fit
          unfolding sizes_fit
          shaped_fit t et = rw (le-leb rows max_rows h1, le-leb cols max_rows h2, le-leb entries max_entries h3, shaped, e) et
