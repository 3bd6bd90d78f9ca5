-- A grouping call that is refused by 1 to 13 keeps all lists; one that asks its matrix first is the grouping itself where that passes.
use Rattle.std.specs.Prelude.{Err, Ok, Result}
use mathlib.Core.Path.{◌≡◌, refl, sym, ◌∙◌, subst}
use mathlib.Core.Bool.{true}
use mathlib.Core.List.{List}
use Prim.Native.Nat.{ℕ}
use lib.ListN.{length, replicate}
use lib.Ieee.{Float}
use Rattle.definitions.specs.Numbers.{zeroᶠ}
use Rattle.definitions.specs.Refusal.{Outcome, refused, done, Checked, ◌>>=◌, result_left, work_left, keeps_all, cause_of}
use Rattle.definitions.specs.Matrix.{Matrix}
use Rattle.definitions.specs.Groups.{Grouping}
use Rattle.definitions.specs.Answers.{answer_of, grouping_answer}
use Rattle.definitions.specs.declared.TwoLevelAggregation.{TwoLevelAggregation}
use Rattle.definitions.specs.declared.Refusal.{Refusal}
use Rattle.definitions.specs.declared.Refusal.TheVariants.{NoNode}
use Rattle.csr32.specs.Calls.{accepted_done, refused_is, goes_on, stops, keeps_refused, result_kept, work_kept}
use Rattle.adjacency.specs.Within.{read_of}
use Rattle.adjacency.proofs.Reading.{read_keeps}
use Rattle.two_level_grouping.specs.Calls.{ids_left, Answered, read_then, no_node}

-- ---- what the answer of a call says of its first check, where that is the only one that can fail

module _ {A : Type 0} (next : Unit {0} → Outcome A) where
  pub accepted_first : (o : Checked) → answer_of (o >>= next) ≡ (Ok tt) → o ≡ done tt
  unfolding answer_of ◌>>=◌
  accepted_first (done tt) e = refl
  accepted_first (refused r) e = cc

  pub refused_first : (o : Checked) (x : A) → (o ≡ done tt → (o >>= next) ≡ done x) → (r : Refusal) → answer_of (o >>= next) ≡ Err r → o ≡ refused r
  unfolding answer_of ◌>>=◌
  refused_first (done tt) x h r e = let p = h refl in cc
  refused_first (refused q) x h r e = cc

-- ---- what is left

module _ (ids work : List ℕ) (floats : List Float) where
  pub kept : (call : Outcome Grouping) (r : Refusal) → keeps_all r ≡ true → call ≡ refused r → Answered call ids work floats (Err r) ids work floats
  unfolding grouping_answer ids_left
  kept call r k e = record {
    answer = rw e;
    groups = sym (result_kept 0 ids r k (call >>= (λ g. done g.ids)) (stops call r (λ g. done g.ids) e));
    ints = sym (work_kept 0 work r k call e);
    floats = sym (work_kept zeroᶠ floats r k call e);
  }

  module _ (k : TwoLevelAggregation) (a : Matrix) (g : Outcome Grouping) where
    pub invalid_kept : (r : Refusal) → read_of k a ≡ refused r → Answered (read_then k a g) ids work floats (Err r) ids work floats
    invalid_kept r v = kept (read_then k a g) r (keeps_refused (read_of k a) r (read_keeps k a) v) (stops (read_of k a) r (λ _. g) v)

    pub valid_answered : read_of k a ≡ done tt → (r : (Result ℕ Refusal)) (ids' work' : List ℕ) (floats' : List Float) → Answered g ids work floats r ids' work' floats'
        → Answered (read_then k a g) ids work floats r ids' work' floats'
    valid_answered v r ids' work' floats' s = subst (λ c. Answered c ids work floats r ids' work' floats') (sym (goes_on (read_of k a) tt (λ _. g) v)) s

  -- by the answer to those causes
  module _ (k : TwoLevelAggregation) (a : Matrix) (x : (Result (Unit {0}) Refusal)) (ex : x ≡ answer_of (read_of k a)) where
    pub invalid_answered : (g : Outcome Grouping) (r : Refusal) → x ≡ Err r → Answered (read_then k a g) ids work floats (Err r) ids work floats
    invalid_answered g r e = invalid_kept k a g r (refused_is (read_of k a) r (sym ex ∙ e))

    pub no_node_answered : x ≡ (Ok tt) → (ids' work' : List ℕ) (floats' : List Float) → ids' ≡ replicate (length ids) 0 → work' ≡ replicate (length work) 0 → floats' ≡ replicate (length floats) zeroᶠ
        → Answered (read_then k a no_node) ids work floats (Err NoNode) ids' work' floats'
    unfolding grouping_answer ids_left ◌>>=◌ result_left work_left keeps_all cause_of
    no_node_answered e ids' work' floats' e1 e2 e3 =
        valid_answered k a no_node (accepted_done (read_of k a) (sym ex ∙ e)) _ _ _ _ (record { answer = refl; groups = e1; ints = e2; floats = e3 })
