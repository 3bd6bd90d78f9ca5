-- The answer of causes 1 to 12, from validate's and the shape's, and that they leave few nodes.
use Rattle.std.specs.Prelude.{Err, Ok, Result}
use mathlib.Core.Path.{◌≡◌, ap, sym, ◌∙◌}
use Prim.Native.Nat.{◌≤◌}
use native.Mathlib.Omega.{arith}
use native.Mathlib.Nat.{div-le_self}
use Rattle.definitions.specs.Matrix.{Matrix, valid_of, max_rows}
use Rattle.definitions.specs.Places.{node_count}
use Rattle.definitions.specs.Setup.{front_of}
use Rattle.definitions.specs.Answers.{answer_of}
use Rattle.definitions.specs.declared.Options.{Options}
use Rattle.definitions.specs.declared.Refusal.{Refusal}
use Rattle.csr32.specs.Rows.{Rows}
use Rattle.csr32.specs.Valid.{valid_goes, valid_stops}
use Rattle.two_level_grouping.specs.Front.{shape_of, front_splits}

module _ (a : Matrix) (o : Options) (x : (Result (Unit {0}) Refusal)) (ex : x ≡ answer_of (valid_of a)) where
  pub invalid : (r : Refusal) → x ≡ Err r → Err r ≡ answer_of (front_of a o)
  unfolding answer_of
  invalid r e = sym (ap answer_of (front_splits a o ∙ valid_stops a (λ _. shape_of a.rows a.cols o.block o.group) r (sym ex ∙ e)))

  pub shaped : x ≡ (Ok tt) → (y : (Result (Unit {0}) Refusal)) → y ≡ answer_of (shape_of a.rows a.cols o.block o.group) → y ≡ answer_of (front_of a o)
  shaped e y ey = ey ∙ sym (ap answer_of (front_splits a o ∙ valid_goes a (λ _. shape_of a.rows a.cols o.block o.group) (sym ex ∙ e)))

pub few_nodes : (a : Matrix) (o : Options) → Rows a → node_count a o ≤ max_rows
few_nodes a o w = omega (arith, div-le_self a.rows o.block, w.few_rows)
