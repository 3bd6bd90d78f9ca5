-- What the checks before the grouping leave: the matrix's rows, and what 9 to 12 leave.
use Rattle.std.specs.Prelude.{Err, Ok, Result}
use mathlib.Core.Path.{◌≡◌, ap, sym, ◌∙◌}
use mathlib.Core.Bool.{true}
use Rattle.definitions.specs.Refusal.{refused, done, keeps_all}
use Rattle.definitions.specs.Matrix.{Matrix}
use Rattle.definitions.specs.Setup.{front_of}
use Rattle.definitions.specs.Answers.{answer_of}
use Rattle.definitions.specs.declared.Options.{Options}
use Rattle.definitions.specs.declared.Refusal.{Refusal}
use Rattle.csr32.specs.Calls.{accepted_done, refused_is, goes_on, stops, Keeps, keeps_then, keeps_refused}
use Rattle.adjacency.specs.Within.{read_of}
use Rattle.adjacency.proofs.Reading.{read_keeps, valid_read}
use Rattle.two_level_grouping.specs.Front.{shape_of, then_done, shape_keeps, front_parts}
use Rattle.two_level_grouping.specs.Calls.{asked}

module _ (a : Matrix) (o : Options) where
  pub asked_parts : asked a o ≡ done tt → (read_of o.aggregation a ≡ done tt) × (shape_of a.rows a.cols o.block o.group ≡ done tt)
  unfolding asked
  asked_parts e = then_done _ _ _ e

  asked_keeps : Keeps (asked a o)
  unfolding asked
  asked_keeps = keeps_then (read_of o.aggregation a) _ (read_keeps o.aggregation a) (λ _. shape_keeps a.rows a.cols o.block o.group)

  pub asked_kept : (r : Refusal) → asked a o ≡ refused r → keeps_all r ≡ true
  asked_kept r e = keeps_refused (asked a o) r asked_keeps e

  -- where setup's own checks pass, these do
  pub front_asked : front_of a o ≡ done tt → asked a o ≡ done tt
  unfolding asked
  front_asked e = let p = front_parts a o e in goes_on (read_of o.aggregation a) tt _ (valid_read o.aggregation a p.0) ∙ p.1

  -- the answer, from those of the two
  module _ (x : (Result (Unit {0}) Refusal)) (ex : x ≡ answer_of (read_of o.aggregation a)) where
    pub unread : (r : Refusal) → x ≡ Err r → Err r ≡ answer_of (asked a o)
    unfolding answer_of asked
    unread r e = sym (ap answer_of (stops (read_of o.aggregation a) r _ (refused_is (read_of o.aggregation a) r (sym ex ∙ e))))

    pub then_shaped : x ≡ (Ok tt) → (y : (Result (Unit {0}) Refusal)) → y ≡ answer_of (shape_of a.rows a.cols o.block o.group) → y ≡ answer_of (asked a o)
    unfolding asked
    then_shaped e y ey = ey ∙ sym (ap answer_of (goes_on (read_of o.aggregation a) tt _ (accepted_done (read_of o.aggregation a) (sym ex ∙ e))))
