-- The record that the numbers make; what the call answers, as its number and values.
use mathlib.Core.Path.{refl, sym, ◌∙◌}
use Rattle.yelomawin.specs.Boundary.{whether}
use Rattle.definitions.specs.Refusal.{number_of, values_of, cause_of, result_left, work_left, keeps_all}
use Rattle.definitions.specs.Answers.{answer_of, answer_number, answer_values, values_with}
use Rattle.definitions.specs.Apply.{apply_left, apply_work_left}
use Rattle.yelomawin.specs.Calls.{exported_apply, exported}
use Rattle.yelomawin.proofs.Handing.{handed_is, pair_is}
use Rattle.yelomawin.proofs.Policies.{long}
use Rattle.yelomawin.proofs.yelomawin_apply.Goals as goal

pub record_of-s-requires : goal.record_of-s-requires
record_of-s-requires c = long _ (sym c.is_record.ensures ∙ c.if-not-is_record.false)

pub returns : goal.returns
unfolding exported_apply exported whether apply_left apply_work_left answer_values values_with
returns c = let g = c.apply-made.ensures in let t = c.tell.ensures in rw (sym c.is_record.ensures ∙ c.if-not-is_record.false, ← c.record_of-s.ensures, ← g.0) (handed_is t.value (pair_is g.1 g.2) t.list_after)

pub returns-then-not-is_record : goal.returns-then-not-is_record
unfolding exported_apply exported whether answer_of answer_number answer_values number_of values_of cause_of result_left work_left keeps_all values_with
returns-then-not-is_record c = rw (sym c.is_record.ensures ∙ c.if-not-is_record.true) (handed_is refl refl (c.receive.ensures))
