-- Neighbour lists end to end behind their offsets: what the grouping reads of them, and that its checks pass.
use mathlib.Core.Path.{◌≡◌, refl, ap, sym, ◌∙◌, fun_ext}
use mathlib.Core.Bool.{Bool, true, false, not, ◌&&◌}
use mathlib.Core.List.{List, [], ◌∷◌, ◌++◌, flat_map, append_assoc}
use Prim.Native.Nat.{ℕ, zero, suc, ◌+◌, ◌<◌, ◌≤◌}
use native.Mathlib.Omega.{arith}
use lib.Dec.{T, leb, eqb}
use lib.ListN.{length, get_or, drop, length-append, get_or-append}
use lib.Seq.{take_at, drop_at, slice}
use borrow.Author.Tests.{le-leb, lt-ltb, eq-eqb}
use Rattle.definitions.specs.Lists.{pointers_from, joined_lists, any, falls}
use Rattle.definitions.specs.Refusal.{done}
use Rattle.definitions.specs.Matrix.{max_rows, max_entries}
use Rattle.definitions.specs.Groups.{graph_grouping, listed, no_anchor, max_group}
use Rattle.laws.proofs.Csr.{pointers_length, pointers_first, pointers_last, pointers_rise, slice_mid}
use Rattle.csr32.specs.Calls.{goes_on, passed}
use Rattle.aggregates.specs.Stored.{offsets_in, neighbours_in, offsets_at, neighbours_at, room_for}
use Rattle.aggregates.specs.Within.{lists_call, within_call}

-- ---- what a node lists

is_true : (b : Bool) → T b → b ≡ true
is_true true t = refl
is_true false t = elim t [ ]

listed_from : (n : ℕ) (pre : List ℕ) (lists : List (List ℕ)) (v : ℕ) → length pre ≡ n
    → slice (get_or (pointers_from n lists) v 0) (get_or (pointers_from n lists) (suc v) 0) (pre ++ joined_lists lists) ≡ get_or lists v []
unfolding pointers_from flat_map
listed_from n pre [] zero e = empty n (pre ++ [])
  where
    empty : (k : ℕ) (l : List ℕ) → slice k 0 l ≡ []
    empty zero l = refl
    empty (suc k) l = refl
listed_from n pre [] (suc v) e = refl
listed_from n pre (row ∷ lists) zero e =
    ap (λ k. slice n k (pre ++ (row ++ joined_lists lists))) (pointers_first (n + length row) 0 lists) ∙ slice_mid pre row (joined_lists lists) n e
listed_from n pre (row ∷ lists) (suc v) e =
    ap (λ l. slice (get_or (pointers_from (n + length row) lists) v 0) (get_or (pointers_from (n + length row) lists) (suc v) 0) l) (sym (append_assoc pre row (joined_lists lists)))
    ∙ listed_from (n + length row) (pre ++ row) lists v (length-append pre row ∙ ap (λ k. k + length row) e)

pub listed_back : (lists : List (List ℕ)) → listed (pointers_from 0 lists) (joined_lists lists) ≡ (λ v. get_or lists v [])
unfolding listed
listed_back lists = fun_ext (λ v. listed_from 0 [] lists v refl)

-- ---- the lists that stand behind the room

module _ (nodes base : ℕ) (lists : List (List ℕ)) (l : length lists ≡ nodes) (rest w : List ℕ) (e : drop base w ≡ pointers_from 0 lists ++ (joined_lists lists ++ rest)) where
  many : length (pointers_from 0 lists) ≡ suc nodes
  many = pointers_length 0 lists ∙ ap suc l

  last_is : get_or (pointers_from 0 lists) nodes 0 ≡ length (joined_lists lists)
  last_is = rw (← l) (pointers_last 0 0 lists ∙ zero_plus (length (joined_lists lists)))
    where
      zero_plus : (x : ℕ) → 0 + x ≡ x
      zero_plus x = omega arith

  offsets_read : offsets_at base nodes w ≡ pointers_from 0 lists
  unfolding offsets_in
  offsets_read = rw e (take_at (pointers_from 0 lists) (joined_lists lists ++ rest) (suc nodes) many)

  count_read : get_or (drop base w) nodes 0 ≡ length (joined_lists lists)
  count_read = rw (e, get_or-append (pointers_from 0 lists) (joined_lists lists ++ rest) 0 nodes (rw many (omega arith))) last_is

  neighbours_read : neighbours_at base nodes w ≡ joined_lists lists
  unfolding neighbours_in
  neighbours_read = rw (count_read, e, drop_at (pointers_from 0 lists) (joined_lists lists ++ rest) (suc nodes) many) (take_at (joined_lists lists) rest (length (joined_lists lists)) refl)

  -- ---- the checks of the grouping pass

  offsets_pass : (eqb (length (pointers_from 0 lists)) (nodes + 1) && eqb (get_or (pointers_from 0 lists) 0 1) 0 && not (falls (pointers_from 0 lists)) && eqb (get_or (pointers_from 0 lists) nodes 0) (length (joined_lists lists))) ≡ true
  offsets_pass =
      rw (eq-eqb (length (pointers_from 0 lists)) (nodes + 1) (many ∙ omega arith), eq-eqb (get_or (pointers_from 0 lists) 0 1) 0 (pointers_first 0 1 lists), is_true (not (falls (pointers_from 0 lists))) (pointers_rise 0 lists), eq-eqb (get_or (pointers_from 0 lists) nodes 0) (length (joined_lists lists)) last_is)

  module _ (size : ℕ) (h1 : nodes ≤ max_rows) (h2 : length (joined_lists lists) ≤ max_entries) (h3 : 1 ≤ size) (h4 : size ≤ max_group) (h5 : 0 < nodes) (h6 : any (λ w. leb nodes w) (joined_lists lists) ≡ false) where
    lists_pass : lists_call nodes size (pointers_from 0 lists) (joined_lists lists) ≡ done tt
    unfolding lists_call
    lists_pass =
        goes_on _ tt _ (passed _ _ (rw (le-leb nodes max_rows h1, le-leb (length (joined_lists lists)) max_entries h2)))
        ∙ goes_on _ tt _ (passed _ _ (rw (le-leb 1 size h3, le-leb size max_group h4)))
        ∙ goes_on _ tt _ (passed _ _ offsets_pass)
        ∙ goes_on _ tt _ (passed _ _ (lt-ltb 0 nodes h5))
        ∙ passed _ _ (ap not h6)

    pub grouping_passes : room_for nodes (length (joined_lists lists)) ≤ base → within_call nodes size base w ≡ done (graph_grouping (λ v. get_or lists v []) no_anchor nodes size)
    unfolding within_call
    grouping_passes h7 =
        rw (offsets_read, neighbours_read)
        (goes_on _ tt _ lists_pass
        ∙ goes_on _ tt _ (passed _ _ (le-leb (room_for nodes (length (joined_lists lists))) base h7))
        ∙ ap (λ f. done (graph_grouping f no_anchor nodes size)) (listed_back lists))
