-- The answer of a grouping call, and what it leaves.
use Rattle.std.specs.Prelude.{Err, Ok}
use mathlib.Core.Path.{◌≡◌}
use mathlib.Core.List.{List}
use Prim.Native.Nat.{ℕ}
use lib.ListN.{length, replicate}
use Rattle.definitions.specs.Lists.{padded}
use Rattle.definitions.specs.Refusal.{Outcome, refused, done, result_left, work_left}
use Rattle.definitions.specs.Groups.{Grouping, grouping_left, grouping_work_left}
use Rattle.definitions.specs.Answers.{grouping_answer}
use Rattle.definitions.specs.declared.Refusal.{Refusal}

module _ (call : Outcome Grouping) (r : Refusal) (e : call ≡ refused r) where
  pub refused_answer : Err r ≡ grouping_answer call
  unfolding grouping_answer
  refused_answer = rw e

  pub refused_left : (lent : List ℕ) → lent ≡ grouping_left call lent
  unfolding grouping_left
  refused_left lent = rw e

  pub refused_work : (lent : List ℕ) → lent ≡ grouping_work_left call lent
  unfolding grouping_work_left
  refused_work lent = rw e

module _ (call : Outcome Grouping) (g : Grouping) (e : call ≡ done g) where
  pub accepted_answer : (n : ℕ) → n ≡ g.count → Ok n ≡ grouping_answer call
  unfolding grouping_answer
  accepted_answer n c = rw (e, c)

  pub accepted_left : (lent l : List ℕ) → l ≡ padded 0 (length lent) g.ids → l ≡ grouping_left call lent
  unfolding grouping_left result_left
  accepted_left lent l p = rw e p

  pub accepted_work : (lent l : List ℕ) → l ≡ replicate (length lent) 0 → l ≡ grouping_work_left call lent
  unfolding grouping_work_left work_left
  accepted_work lent l p = rw e p
