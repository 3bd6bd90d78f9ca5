-- The grouping call: where the sizes fit, the causes of the matrix and the policy asked for; else the first cause in order.
use Rattle.std.specs.Prelude.{Err, Ok, Result, ◌⊎◌}
use Rattle.std.proofs.Common.{inl, inr}
use mathlib.Core.Path.{◌≡◌, refl, ap, sym, ◌∙◌, subst}
use mathlib.Core.Bool.{Bool, true, false}
use mathlib.Core.List.{List}
use Prim.Native.Nat.{ℕ, ◌+◌, ◌-◌, ◌/◌}
use lib.ListN.{length, replicate}
use lib.Ieee.{Float}
use borrow.Author.Tests.{leb-true, le-leb}
use Rattle.definitions.specs.Lists.{padded, tab}
use Rattle.definitions.specs.Numbers.{zeroᶠ}
use Rattle.definitions.specs.Refusal.{Outcome, refused, done, Checked, ◌>>=◌, result_left, work_left, keeps_all, cause_of}
use Rattle.definitions.specs.Matrix.{Matrix, structure_of, max_rows, max_entries}
use Rattle.definitions.specs.Groups.{Grouping, contiguous_grouping}
use Rattle.definitions.specs.Places.{node_count}
use Rattle.definitions.specs.Setup.{grouping_of}
use Rattle.definitions.specs.Answers.{answer_of, grouping_answer}
use Rattle.definitions.specs.declared.Options.{Options}
use Rattle.definitions.specs.declared.TwoLevelAggregation.{TwoLevelAggregation}
use Rattle.definitions.specs.declared.TwoLevelAggregation.TheVariants.{Contiguous, Graph, StrongGraph}
use Rattle.definitions.specs.declared.Refusal.{Refusal}
use Rattle.definitions.specs.declared.Refusal.TheVariants.{ListTooShort}
use Rattle.csr32.specs.Calls.{accepted_done, refused_is, goes_on, stops, passed, failed}
use Rattle.csr32.specs.Rows.{Rows, structure_rows}
use Rattle.laws.proofs.Tests.{three_true}
use Rattle.adjacency.specs.Within.{read_of}
use Rattle.adjacency.proofs.Reading.{read_rows}
use Rattle.two_level_grouping.specs.Front.{shape_of, shape_least}
use Rattle.two_level_grouping.specs.Calls.{has_room, small, passes, sizes_fit, asked, aggregate_call, ids_left, Answered, Ready, numbers_of, lists_of, read_then}
use Rattle.two_level_grouping.proofs.Rooms.{passes_done}
use Rattle.two_level_grouping.proofs.Asking.{asked_parts, asked_kept}
use Rattle.two_level_grouping.proofs.Answering.{kept, valid_answered}

-- a check between a first one and what follows is dropped where it passes
drops : {B : Type 0} (o : Checked) (mid : Unit {0} → Checked) (next end : Unit {0} → Outcome B) → (mid tt >>= next) ≡ end tt → ((o >>= mid) >>= next) ≡ (o >>= end)
unfolding ◌>>=◌
drops (done tt) mid next end e = e
drops (refused r) mid next end e = refl

module _ (a : Matrix) (o : Options) where
  abbrev n : ℕ
  n = node_count a o

  module _ (ids work : List ℕ) (floats : List Float) where
    -- ---- the groups by the nodes' numbers

    module _ (y : Ready a o (length ids) (length work) (length floats)) (x : (Result (Unit {0}) Refusal)) (ex : x ≡ answer_of (structure_of a)) (e : x ≡ (Ok tt)) where
      valid : structure_of a ≡ done tt
      valid = accepted_done (structure_of a) (sym ex ∙ e)

      pub numbers_rows : Rows a
      numbers_rows = structure_rows a valid

      pub numbers_answered : (r : ℕ) (ids' work' : List ℕ) (floats' : List Float) → r ≡ (n + (o.group - 1)) / o.group
          → ids' ≡ padded 0 (length ids) (tab (λ v. v / o.group) n) → work' ≡ replicate (length work) 0 → floats' ≡ replicate (length floats) zeroᶠ
          → Answered (read_then Contiguous a (numbers_of a o)) ids work floats (Ok r) ids' work' floats'
      unfolding read_of contiguous_grouping grouping_answer ids_left ◌>>=◌ result_left work_left
      numbers_answered r ids' work' floats' er e1 e2 e3 =
          valid_answered ids work floats Contiguous a (numbers_of a o) valid _ _ _ _ (record { answer = rw er; groups = e1; ints = e2; floats = e3 })

    -- ---- the policies

    module _ (r : (Result ℕ Refusal)) (ids' work' : List ℕ) (floats' : List Float) where
      abbrev Ends : TwoLevelAggregation → Outcome Grouping → Type 0
      Ends k g = Answered (read_then k a g) ids work floats r ids' work' floats'

      pub contiguous_ends : o.aggregation ≡ Contiguous → Ends Contiguous (numbers_of a o) → Ends o.aggregation (grouping_of o.aggregation a o)
      unfolding grouping_of
      contiguous_ends e s = rw e s

      pub graph_ends : (o.aggregation ≡ Graph) ⊎ (o.aggregation ≡ StrongGraph) → Ends o.aggregation (lists_of o.aggregation a o) → Ends o.aggregation (grouping_of o.aggregation a o)
      unfolding grouping_of
      graph_ends h s = rw (by_lists o.aggregation h) s
        where
          by_lists : (k : TwoLevelAggregation) → (k ≡ Graph) ⊎ (k ≡ StrongGraph) → grouping_of k a o ≡ lists_of k a o
          by_lists k (inl e) = rw e
          by_lists k (inr e) = rw e

    -- ---- the checks

    abbrev call : Outcome Grouping
    call = aggregate_call a o (length ids) (length work) (length floats)

    abbrev shape : Checked
    shape = shape_of a.rows a.cols o.block o.group

    abbrev room : Bool
    room = has_room n (length a.values) (length ids) (length work) (length floats)

    abbrev limits : Bool
    limits = small a.rows a.cols (length a.values)

    module _ (t : Bool) (et : t ≡ sizes_fit a.rows a.cols (length a.values) o.block o.group (length ids) (length work) (length floats)) where
      -- sizes that fit leave the causes of the matrix, and 16
      module _ (f : t ≡ true) where
        fit : (limits ≡ true) × (passes shape ≡ true) × (room ≡ true)
        unfolding sizes_fit
        fit = three_true limits (passes shape) room (sym et ∙ f)

        shaped : shape ≡ done tt
        shaped = passes_done shape fit.1

        pub ready_of : Ready a o (length ids) (length work) (length floats)
        unfolding has_room
        ready_of =
            let p = three_true _ _ _ fit.2 in
            record { shape = shaped; least = shape_least a.rows a.cols o.block o.group shaped; ids = leb-true _ _ p.0; work = leb-true _ _ p.1; floats = leb-true _ _ p.2 }

        left : call ≡ read_then o.aggregation a (grouping_of o.aggregation a o)
        unfolding aggregate_call asked
        left = drops (read_of o.aggregation a) _ _ _ (goes_on shape tt _ shaped ∙ goes_on _ tt _ (passed room ListTooShort fit.2))

        pub went : (r : (Result ℕ Refusal)) (ids' work' : List ℕ) (floats' : List Float) → Answered (read_then o.aggregation a (grouping_of o.aggregation a o)) ids work floats r ids' work' floats'
            → Answered call ids work floats r ids' work' floats'
        went r ids' work' floats' s = subst (λ c. Answered c ids work floats r ids' work' floats') (sym left) s

      -- sizes that do not fit leave a first cause among 1 to 13
      module _ (f : t ≡ false) (x : (Result (Unit {0}) Refusal)) (ex : x ≡ answer_of (asked a o)) where
        pub stopped : (r : Refusal) → x ≡ Err r → Answered call ids work floats (Err r) ids work floats
        unfolding aggregate_call
        stopped r e =
            let q : asked a o ≡ refused r = refused_is (asked a o) r (sym ex ∙ e) in
            kept ids work floats call r (asked_kept a o r q) (stops (asked a o) r _ q)

        pub short : x ≡ (Ok tt) → Answered call ids work floats (Err ListTooShort) ids work floats
        unfolding aggregate_call keeps_all cause_of sizes_fit passes
        short e =
            let d : asked a o ≡ done tt = accepted_done (asked a o) (sym ex ∙ e) in
            let w = read_rows o.aggregation a (asked_parts a o d).0 in
            let s : limits ≡ true = rw (le-leb a.rows max_rows w.few_rows, le-leb a.cols max_rows w.few_cols, le-leb (length a.values) max_entries w.few_entries) in
            let h : passes shape ≡ true = ap passes (asked_parts a o d).1 in
            let g : room ≡ false = rw (s, h) at (sym et ∙ f) in
            kept ids work floats call ListTooShort refl (goes_on (asked a o) tt _ d ∙ stops _ ListTooShort _ (failed room ListTooShort g))
