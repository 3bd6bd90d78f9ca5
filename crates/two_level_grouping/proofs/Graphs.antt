-- The grouping by the nodes' lists: of its two stages only the first can refuse, by the causes of the matrix, and else the lists are where the second reads them.
use Rattle.std.specs.Prelude.{Err, Ok, Result}
use mathlib.Core.Path.{◌≡◌, ap, sym, ◌∙◌}
use mathlib.Core.Bool.{true, false}
use mathlib.Core.List.{List, [], ◌++◌, append_assoc}
use Prim.Native.Nat.{ℕ, suc, ◌+◌, ◌-◌, ◌*◌, ◌%◌, ◌<◌, ◌≤◌}
use native.Mathlib.Omega.{arith}
use lib.Dec.{ltb}
use lib.ListN.{length, get_or, take, drop, replicate, length-append, length-replicate}
use lib.Seq.{drop_at, drop-drop, length-take-le}
use lib.Ieee.{Float}
use borrow.Author.Tests.{le-leb, lt-ltb, le-ltb, eq-eqb}
use borrow.Rule.Slice.PartMut.{put_mid, mid_len, same_len_mid, put_same}
use Rattle.definitions.specs.Lists.{between, padded, pointers_from, joined_lists}
use Rattle.definitions.specs.Numbers.{zeroᶠ}
use Rattle.definitions.specs.Refusal.{Outcome, refused, done, require, ◌>>=◌, result_left, work_left, keeps_all}
use Rattle.definitions.specs.Matrix.{Matrix}
use Rattle.definitions.specs.Block.{max_block}
use Rattle.definitions.specs.Neighbours.{list_for, neighbour_lists, flat_neighbours}
use Rattle.definitions.specs.Groups.{graph_grouping, no_anchor}
use Rattle.definitions.specs.Places.{node_count}
use Rattle.definitions.specs.Setup.{graph_of}
use Rattle.definitions.specs.Answers.{answer_of, grouping_answer}
use Rattle.definitions.specs.declared.Options.{Options}
use Rattle.definitions.specs.declared.TwoLevelAggregation.{TwoLevelAggregation}
use Rattle.definitions.specs.declared.Refusal.{Refusal}
use Rattle.definitions.specs.declared.Refusal.TheVariants.{NotSquare, BlockSize, NotMultiple, ListTooShort}
use Rattle.laws.proofs.Lists.{length_tab}
use Rattle.laws.proofs.Csr.{pointers_length}
use Rattle.laws.proofs.GroupIds.{grouping_length}
use Rattle.csr32.specs.Calls.{goes_on, stops, passed, keeps_refused, result_kept, work_kept}
use Rattle.csr32.specs.Rows.{Rows}
use Rattle.adjacency.specs.Within.{read_of, neighbours_within}
use Rattle.adjacency.proofs.Reading.{read_keeps, read_rows}
use Rattle.aggregates.specs.Within.{within_call}
use Rattle.two_level_grouping.specs.Front.{Shape, shape_of_lem}
use Rattle.two_level_grouping.specs.Calls.{Grouped, Answered, Ready, ids_left, lists_of, read_then, no_node}
use Rattle.two_level_grouping.proofs.Fronts.{few_nodes}
use Rattle.two_level_grouping.proofs.Answering.{accepted_first, refused_first, invalid_kept, valid_answered}
use Rattle.two_level_grouping.proofs.Below.{lists_inside}
use Rattle.two_level_grouping.proofs.Flat.{grouping_passes}

module _ (a : Matrix) (o : Options) where
  abbrev n : ℕ
  n = node_count a o

  -- where the part lent to the search begins, where the neighbour lists do, and where they may end
  abbrev first : ℕ
  first = 4 * n + length a.values + 16

  abbrev base : ℕ
  base = first + 2 * n

  abbrev ending : ℕ
  ending = base + n + 1 + length a.values

  -- ---- what is answered and left

  module _ (k : TwoLevelAggregation) (ids work : List ℕ) (floats : List Float) where
    pub none_ends : n ≡ 0 → (r : (Result ℕ Refusal)) (ids' work' : List ℕ) (floats' : List Float) → Answered (read_then k a no_node) ids work floats r ids' work' floats'
        → Answered (read_then k a (lists_of k a o)) ids work floats r ids' work' floats'
    unfolding graph_of require ◌>>=◌
    none_ends h r ids' work' floats' s = let b : ltb 0 n ≡ false = le-ltb 0 n (omega arith) in rw b s

    grouped : 0 < n → (after ids' work' : List ℕ) (floats' : List Float) (r : (Result ℕ Refusal)) → 1 ≤ o.group → length after ≡ length work
        → within_call n o.group base after ≡ done (graph_grouping (λ v. get_or (neighbour_lists k a o.block n) v []) no_anchor n o.group)
        → Grouped n o.group base ids after r ids' work' → floats' ≡ replicate (length floats) zeroᶠ → Answered (lists_of k a o) ids work floats r ids' work' floats'
    unfolding graph_of require ◌>>=◌ grouping_answer ids_left result_left work_left
    grouped h after ids' work' floats' r p la e g ef =
        let b : ltb 0 n ≡ true = lt-ltb 0 n h in
        let l = grouping_length (λ v. get_or (neighbour_lists k a o.block n) v []) no_anchor n o.group in
        record { answer = rw b (g.answer ∙ ap grouping_answer e); groups = rw b (g.ids _ e l); ints = rw (b, ← la) (g.zeros _ e l); floats = rw b ef }

  -- ---- the first stage's checks

  neighbours_pass : Shape a o → (k : TwoLevelAggregation) → read_of k a ≡ done tt → (room floatRoom : ℕ) → 2 * n + n + 1 + length a.values ≤ room → 3 * n ≤ floatRoom
      → neighbours_within k a o.block (2 * n) room floatRoom ≡ done (replicate (2 * n) 0 ++ flat_neighbours k a o.block n)
  unfolding neighbours_within
  neighbours_pass f k v room floatRoom h1 h2 =
      goes_on (read_of k a) tt _ v
      ∙ goes_on _ tt _ (passed _ NotSquare (eq-eqb a.cols a.rows f.square))
      ∙ goes_on _ tt _ (passed _ BlockSize (rw (le-leb 1 o.block f.least, le-leb o.block max_block f.most)))
      ∙ goes_on _ tt _ (passed _ NotMultiple (eq-eqb (a.rows % o.block) 0 f.whole))
      ∙ goes_on _ tt _ (passed _ ListTooShort (rw (le-leb (2 * n) (2 * n) (omega arith), le-leb (2 * n + n + 1 + length a.values) room h1, le-leb (3 * n) floatRoom h2)))

  module _ (k : TwoLevelAggregation) (room workRoom floatRoom : ℕ) (y : Ready a o room workRoom floatRoom) (some : 0 < n) where
    abbrev lists : List (List ℕ)
    lists = neighbour_lists k a o.block n

    list_count : length lists ≡ n
    unfolding neighbour_lists
    list_count = length_tab (list_for k a o.block n) n

    reach : ending ≤ workRoom
    reach = omega (arith, y.work)

    module _ (work work1 : List ℕ) (long : length work ≡ workRoom)
        (came : work1 ≡ result_left 0 (neighbours_within k a o.block (2 * n) (length (between first ending work)) floatRoom) (between first ending work)) (kept : length work1 ≡ length (between first ending work)) where
      abbrev lent : List ℕ
      lent = between first ending work

      abbrev within : Outcome (List ℕ)
      within = neighbours_within k a o.block (2 * n) (length lent) floatRoom

      abbrev after : List ℕ
      after = put_mid first (ending - first) work work1

      abbrev flat : List ℕ
      flat = replicate (2 * n) 0 ++ flat_neighbours k a o.block n

      abbrev rest : List ℕ
      rest = replicate (length lent - length flat) 0 ++ drop (ending - first) (drop first work)

      lent_long : length lent ≡ ending - first
      lent_long = mid_len first ending work (omega (arith, reach, long))

      after_long : length after ≡ length work
      after_long = same_len_mid first (ending - first) work work1 kept

      passes_valid : read_of k a ≡ done tt → within ≡ done flat
      passes_valid v = neighbours_pass (shape_of_lem a o y.shape) k v (length lent) floatRoom (omega (arith, lent_long)) y.floats

      module _ (x : (Result (Unit {0}) Refusal)) (ex : x ≡ answer_of within) where
        -- refused: by those, and all lists are as they were
        pub unchanged : (r : Refusal) → x ≡ Err r → (ids : List ℕ) (floats floats1 : List Float) → floats1 ≡ work_left zeroᶠ within floats
            → Answered (read_then k a (lists_of k a o)) ids work floats (Err r) ids after floats1
        unfolding neighbours_within
        unchanged r e ids floats floats1 ef =
            let v : read_of k a ≡ refused r = refused_first _ (read_of k a) flat passes_valid r (sym ex ∙ e) in
            let q : keeps_all r ≡ true = keeps_refused (read_of k a) r (read_keeps k a) v in
            let c : within ≡ refused r = stops (read_of k a) r _ v in
            let w : work1 ≡ lent = came ∙ result_kept 0 lent r q within c in
            let p : after ≡ work = ap (λ l. put_mid first (ending - first) work l) w ∙ put_same first (ending - first) work in
            rw (p, ef ∙ work_kept zeroᶠ floats r q within c) (invalid_kept ids work floats k a (lists_of k a o) r v)

        module _ (e : x ≡ (Ok tt)) where
          valid : read_of k a ≡ done tt
          unfolding neighbours_within
          valid = accepted_first _ (read_of k a) (sym ex ∙ e)

          shape : Shape a o
          shape = shape_of_lem a o y.shape

          rows : Rows a
          rows = read_rows k a valid

          came_is : work1 ≡ result_left 0 (done flat) lent
          came_is = came ∙ ap (λ c. result_left 0 c lent) (passes_valid valid)

          stands : drop base after ≡ pointers_from 0 lists ++ (joined_lists lists ++ rest)
          unfolding result_left padded flat_neighbours
          stands =
              sym (drop-drop (2 * n) first after)
              ∙ ap (drop (2 * n)) (drop_at (take first work) (work1 ++ drop (ending - first) (drop first work)) first (length-take-le first work (omega (arith, reach, long))))
              ∙ rw (came_is, append_assoc flat (replicate (length lent - length flat) 0) (drop (ending - first) (drop first work)), append_assoc (replicate (2 * n) 0) (flat_neighbours k a o.block n) rest)
              (drop_at (replicate (2 * n) 0) (flat_neighbours k a o.block n ++ rest) (2 * n) (length-replicate (2 * n) 0) ∙ append_assoc (pointers_from 0 lists) (joined_lists lists) rest)

          fits : length flat ≤ ending - first
          unfolding result_left padded
          fits =
              let e : length (flat ++ replicate (length lent - length flat) 0) ≡ length lent = rw (← came_is) kept in
              let d : length flat + (length lent - length flat) ≡ length lent
              = rw (length-append flat (replicate (length lent - length flat) 0), length-replicate {A = ℕ} (length lent - length flat) 0) at e in
              omega (arith, lent_long, d)

          few : length (joined_lists lists) ≤ length a.values
          unfolding flat_neighbours
          few =
              let b : length flat ≡ 2 * n + length (pointers_from 0 lists ++ joined_lists lists) = length-append (replicate (2 * n) 0) (pointers_from 0 lists ++ joined_lists lists) ∙ ap (λ m. m + length (pointers_from 0 lists ++ joined_lists lists)) (length-replicate (2 * n) 0) in
              let s : length (pointers_from 0 lists ++ joined_lists lists) ≡ suc n + length (joined_lists lists)
              = length-append (pointers_from 0 lists) (joined_lists lists) ∙ ap (λ m. m + length (joined_lists lists)) (pointers_length 0 lists ∙ ap suc list_count) in
              omega (arith, fits, b, s)

          floats_clear : (floats floats1 : List Float) → floats1 ≡ work_left zeroᶠ within floats → floats1 ≡ replicate (length floats) zeroᶠ
          unfolding work_left
          floats_clear floats floats1 ef = ef ∙ ap (λ c. work_left zeroᶠ c floats) (passes_valid valid)

          grouping_is : within_call n o.group base after ≡ done (graph_grouping (λ v. get_or lists v []) no_anchor n o.group)
          grouping_is =
              grouping_passes n base lists list_count rest after stands o.group (few_nodes a o rows) (omega (arith, few, rows.few_entries)) shape.some shape.fewest some
              (lists_inside k a o.block n) (omega (arith, few))

          pub grouped_answered : (ids : List ℕ) (floats floats1 : List Float) → floats1 ≡ work_left zeroᶠ within floats → (r : (Result ℕ Refusal)) (ids' work' : List ℕ) → Grouped n o.group base ids after r ids' work'
              → Answered (read_then k a (lists_of k a o)) ids work floats r ids' work' floats1
          grouped_answered ids floats floats1 ef r ids' work' g =
              valid_answered ids work floats k a (lists_of k a o) valid _ _ _ _ (grouped k ids work floats some after ids' work' floats1 r shape.some after_long grouping_is g (floats_clear floats floats1 ef))
