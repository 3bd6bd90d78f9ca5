-- Checks one after the other, and the lists when all is done.
use Rattle.std.specs.Prelude.{Err, Ok, Result}
use Prim.Native.Nat.{ℕ, ◌+◌, ◌-◌, ◌*◌, ◌%◌, ◌<◌, ◌≤◌}
use mathlib.Core.Path.{◌≡◌, refl, ap, sym, ◌∙◌}
use mathlib.Core.List.{List, [], ◌++◌, map, append-nil}
use native.Mathlib.Omega.{arith}
use lib.ListN.{length, take, drop, replicate, length-append, length-drop, drop_of_length-le}
use lib.Seq.{length-take-le, take-add, take_at, drop_at, take-append-le}
use lib.Ieee.{Float}
use Rattle.definitions.specs.Lists.{padded, pointers_from, joined_lists}
use Rattle.definitions.specs.Numbers.{zeroᶠ}
use Rattle.definitions.specs.Refusal.{Outcome, refused, done, Checked, require, ◌>>=◌, result_left}
use lib.Dec.{leb}
use borrow.Author.Tests.{le-leb, lt-leb}
use Rattle.definitions.specs.Matrix.{Matrix, Entry, max_rows, structure_of}
use Rattle.csr32.specs.Rows.{Rows, structure_rows}
use Rattle.laws.specs.Bounds.{Grouped}
use Rattle.definitions.specs.Answers.{transfer_answer, answer_of}
use Rattle.transfer.specs.Call.{shape_checked, groups_checked, transfer_checked, smoothed_transfer_call, transfer_ints, transfer_floats}
use Rattle.definitions.specs.Transfer.{transfer_of}
use Rattle.transfer.proofs.Checking.{shape_facts, groups_facts}
use Rattle.definitions.specs.declared.Refusal.{Refusal}
use Rattle.definitions.specs.declared.Refusal.TheVariants.{TooLarge}
use Rattle.csr32.specs.Calls.{accepted_done, refused_is, goes_on, stops, passed}
use Rattle.transfer.specs.Weights.{Built, Left}

module _ (o : Checked) (next : Unit {0} → Checked) (q : (Result (Unit {0}) Refusal)) (e : q ≡ answer_of o) where
  pub stop : (r : Refusal) → q ≡ Err r → Err r ≡ answer_of (o >>= next)
  unfolding answer_of
  stop r h = let s = stops o r next (refused_is o r (sym e ∙ h)) in rw s

  pub go : (r : (Result (Unit {0}) Refusal)) → q ≡ (Ok tt) → r ≡ answer_of (next tt) → r ≡ answer_of (o >>= next)
  go r h k = let s = goes_on o tt next (accepted_done o (sym e ∙ h)) in rw s k

-- zeros put behind what is used
pub padded_is : {A : Type 0} (z : A) (used : ℕ) (l t x : List A) (n : ℕ) → take used l ≡ x → used ≤ length l → length l ≡ n → t ≡ replicate (length (take (length l - used) (drop used l))) z
    → take used l ++ (t ++ drop (length l - used) (drop used l)) ≡ padded z n x
unfolding padded
padded_is z used l t x n e h ln et =
    let ld : length (drop used l) ≡ length l - used = length-drop used l in
    let lx : length x ≡ used = sym (ap length e) ∙ length-take-le used l h in
    let m : length (take (length l - used) (drop used l)) ≡ n - length x = length-take-le (length l - used) (drop used l) (omega arith) ∙ omega arith in
    let none : drop (length l - used) (drop used l) ≡ [] = drop_of_length-le (drop used l) {i = length l - used} (omega arith) in
    rw (et, none, append-nil, m, e)

module _ {A : Type 0} (p c rest : List A) (r : ℕ) (h : r ≤ length c) where
  abbrev joined : List A
  joined = p ++ (c ++ rest)

  front : take (length p + r) joined ≡ p ++ take r c
  front = take-add (length p) r joined ∙ rw (take_at p (c ++ rest) (length p) refl, drop_at p (c ++ rest) (length p) refl, take-append-le r c rest h)

pub all_done : (rows : List (List Entry)) (k r : ℕ) (ints₀ p c ri ti : List ℕ) (floats₀ u rf tf : List Float) → Built rows p c u r → length p ≡ k → length (p ++ (c ++ ri)) ≡ length ints₀ → length (u ++ rf) ≡ length floats₀
    → ti ≡ replicate (length (take (length (p ++ (c ++ ri)) - (k + r)) (drop (k + r) (p ++ (c ++ ri))))) 0 → tf ≡ replicate (length (take (length (u ++ rf) - r) (drop r (u ++ rf)))) zeroᶠ
    → Left rows r ints₀ (take (k + r) (p ++ (c ++ ri)) ++ (ti ++ drop (length (p ++ (c ++ ri)) - (k + r)) (drop (k + r) (p ++ (c ++ ri))))) floats₀ (take r (u ++ rf) ++ (tf ++ drop (length (u ++ rf) - r) (drop r (u ++ rf))))
all_done rows k r ints₀ p c ri ti floats₀ u rf tf b lp li lf ei ef = record {
  many = b.many;
  columns = padded_is 0 (k + r) (p ++ (c ++ ri)) ti (pointers_from 0 rows ++ map (λ (e : Entry). e.col) (joined_lists rows)) (length ints₀)
      (let e : take (k + r) (p ++ (c ++ ri)) ≡ p ++ take r c = rw (← lp) (front p c ri r b.room.0) in e ∙ rw (b.starts, b.names)) (omega (arith, length-append p (c ++ ri), length-append c ri, b.room.0)) li ei;
  weights = padded_is zeroᶠ r (u ++ rf) tf (map (λ (e : Entry). e.value) (joined_lists rows)) (length floats₀) (take-append-le r u rf b.room.1 ∙ b.numbers) (omega (arith, length-append u rf, b.room.1)) lf ef;
}

split : (o : Checked) (k : Unit {0} → Checked) → (o >>= k) ≡ done tt → (o ≡ done tt) × (k tt ≡ done tt)
unfolding ◌>>=◌
split (done tt) k e = (refl, e)
split (refused r) k e = (cc, cc)

is_accepted : (o : Checked) → o ≡ done tt → answer_of o ≡ (Ok tt)
unfolding answer_of
is_accepted o e = rw e

-- what an accepted check knows
pub taken_apart : (a : Matrix) (size : ℕ) (ids : List ℕ) (groups diagonal ints floats : ℕ) → answer_of (transfer_checked a size ids groups diagonal ints floats) ≡ (Ok tt)
    → Rows a × ((a.cols ≡ a.rows) × (1 ≤ size) × (size ≤ 8) × (a.rows % size ≡ 0) × (diagonal ≡ a.rows)) × ((groups * size ≤ 2_048) × Grouped size ids a.rows (groups * size))
    × ((2 * a.rows + length a.values + 1 + 2 * (groups * size) ≤ ints) × (a.rows + length a.values + groups * size ≤ floats))
unfolding transfer_checked
taken_apart a size ids groups diagonal ints floats h =
    let p0 = split _ _ (accepted_done _ h) in
    let p1 = split _ _ p0.1 in
    let p2 = split _ _ p1.1 in
    let s = shape_facts a.rows a.cols (length a.values) size ints floats (is_accepted _ p2.0) in
    let g = groups_facts a.rows (length a.values) size ids groups diagonal ints floats s.1 s.3 (is_accepted _ p2.1) in
    (structure_rows a p1.0, (s.0, s.1, s.2, s.3, g.0), g.1, g.2)

-- 1 for the groups, then the rest
module _ (a : Matrix) (size : ℕ) (ids : List ℕ) (groups diagonal ints floats : ℕ) where
  pub many_groups : max_rows < groups → Err TooLarge ≡ answer_of (transfer_checked a size ids groups diagonal ints floats)
  unfolding transfer_checked require ◌>>=◌ answer_of
  many_groups h = rw (lt-leb groups max_rows h)

  pub few_groups : (v : (Result (Unit {0}) Refusal)) → groups ≤ max_rows
      → v ≡ answer_of (structure_of a >>= (λ _. shape_checked a.rows a.cols (length a.values) size ints floats >>= (λ _. groups_checked a.rows (length a.values) size ids groups diagonal ints floats)))
      → v ≡ answer_of (transfer_checked a size ids groups diagonal ints floats)
  unfolding transfer_checked
  few_groups v h e = e ∙ ap answer_of (sym (goes_on (require (leb groups max_rows) TooLarge) tt (λ _. structure_of a >>= (λ _. shape_checked a.rows a.cols (length a.values) size ints floats >>= (λ _. groups_checked a.rows (length a.values) size ids groups diagonal ints floats))) (passed _ TooLarge (le-leb groups max_rows h))))

-- ---- the whole call

module _ (a : Matrix) (size : ℕ) (ids : List ℕ) (groups : ℕ) (d : List Float) (damping : Float) (ints : List ℕ) (floats : List Float) where
  abbrev call : Outcome (List (List Entry))
  call = smoothed_transfer_call a size ids groups d damping (length ints) (length floats)

  -- the answer and what the lists hold
  abbrev pub Answered : (Result ℕ Refusal) → List ℕ → List Float → Type 0
  Answered r ints' floats' = (r ≡ transfer_answer call) × ((ints' ≡ transfer_ints call ints) × (floats' ≡ transfer_floats call floats))

  pub call_stops : (r : Refusal) (ints' : List ℕ) (floats' : List Float) → transfer_checked a size ids groups (length d) (length ints) (length floats) ≡ refused r → ints' ≡ result_left 0 (refused r) ints → floats' ≡ result_left zeroᶠ (refused r) floats → Answered (Err r) ints' floats'
  unfolding smoothed_transfer_call transfer_answer transfer_ints transfer_floats ◌>>=◌
  call_stops r ints' floats' h ei ef =
      let s = stops (transfer_checked a size ids groups (length d) (length ints) (length floats)) r (λ _. done (transfer_of a d damping size ids (groups * size))) h in
      (rw s, (ei ∙ rw s, ef ∙ rw s))

  pub call_goes : (n : ℕ) (ints' : List ℕ) (floats' : List Float) → transfer_checked a size ids groups (length d) (length ints) (length floats) ≡ done tt → Left (transfer_of a d damping size ids (groups * size)) n ints ints' floats floats' → Answered (Ok n) ints' floats'
  unfolding smoothed_transfer_call transfer_answer transfer_ints transfer_floats result_left ◌>>=◌
  call_goes n ints' floats' h l =
      let s = goes_on (transfer_checked a size ids groups (length d) (length ints) (length floats)) tt (λ _. done (transfer_of a d damping size ids (groups * size))) h in
      (rw s (ap Ok l.many), (rw s l.columns, rw s l.weights))
