-- DEMAND 3, of the exported functions on byte lists: the bytes that setup leaves spell its record and its lists with zeros behind, so that an apply with them computes what it computes with
-- the lists themselves; and the bytes of a correction spell it.
use Prim.Native.Nat.{ℕ, ◌-◌, ◌/◌, ◌^◌, ◌≤◌, ◌<◌}
use mathlib.Core.Path.{◌≡◌, refl, sym, ap, ◌∙◌, subst}
use mathlib.Core.Bool.{Bool, true, false, not, cond, ◌&&◌, ◌||◌}
use mathlib.Core.List.{List, [], ◌++◌, append_assoc}
use native.Mathlib.Omega.{arith}
use lib.Dec.{T}
use lib.ListN.{length, get_or, replicate, get_or-append}
use lib.Pow.{pow_pos}
use lib.Ieee.{Float, nan, eq}
use Rattle.byte_lists.specs.Bytes.{ints_of, numbers_of, floats_of, bytes_of_ints, bytes_of_numbers, bytes_of_floats}
use Rattle.byte_lists.proofs.RoundTrip.{ints_behind, numbers_behind, floats_behind}
use Rattle.definitions.specs.Lists.{padded}
use Rattle.definitions.specs.Numbers.{zeroᶠ}
use Rattle.definitions.specs.Refusal.{Outcome, refused, done, ◌>>=◌, result_left}
use Rattle.definitions.specs.Matrix.{Matrix}
use Rattle.definitions.specs.Setup.{Built, setup_of, lengths_of, built_from}
use Rattle.definitions.specs.Apply.{applied, apply_call}
use Rattle.definitions.specs.Answers.{answer_of, answer_number, setup_answer, setup_values, values_with}
use Rattle.definitions.specs.Record.{are_policies, record_numbers, record_of, is_record}
use Rattle.definitions.specs.Separation.{agree}
use Rattle.definitions.specs.declared.Options.{Options}
use Rattle.definitions.specs.declared.Setup.{Setup}
use Rattle.laws.proofs.Lists.{Each, each_append, each_replicate, each_up_to, all_up_to, all_each, length_tab}
use Rattle.laws.proofs.Causes.{no_cause}
use Rattle.laws.proofs.Record.{HoldsF64s, record_behind, setup_record_lem}
use Rattle.yelomawin.specs.Boundary.{received, options_of, whether, no_policy}
use Rattle.yelomawin_bytes.specs.Calls.{misfit, matrix_of, after, bytes_left, answer_left}
use Rattle.yelomawin_bytes.specs.Results.{SetupBytes, bytes_apply}
use Rattle.separation.proofs.Stages.{Stages, built, stages_of}
use Rattle.separation.proofs.ApplyApart.{applied_by}
use Rattle.separation.proofs.Places.{applied_read}
use Rattle.separation.proofs.Theorem.{vectors_agree}
use Rattle.separation.proofs.Calls.{handed}
use Rattle.separation_of_exports.specs.ByteExports.{SeparationOfByteExports}
use Rattle.separation_of_exports.proofs.Accepted.{all_received}
use Rattle.separation_of_exports.proofs.F64s.{F64s, built_fits, applied_fits}
use Rattle.separation_of_exports.proofs.Held.{built_ints, built_numbers}

-- ---- lists that agree, with more behind them

agree_behind : (part : ℕ → Bool) (size rows : ℕ) (x x' y y' : List Float) → length x ≡ rows → length x' ≡ rows → T (agree part size rows x x') → T (agree part size rows (x ++ y) (x' ++ y'))
unfolding agree
agree_behind part size rows x x' y y' e e' t =
    all_each (λ i. not (part (i / size)) || eq (get_or (x ++ y) i nan) (get_or (x' ++ y') i nan))
    (each_up_to rows (λ i h.
    rw (get_or-append x y nan i (subst (λ (n : ℕ). i < n) (sym e) h), get_or-append x' y' nan i (subst (λ (n : ℕ). i < n) (sym e') h))
    (all_up_to (λ i. not (part (i / size)) || eq (get_or x i nan) (get_or x' i nan)) rows t i h)))

-- ---- what number 0 tells

record SetupTaken (s : Outcome Built) (room ints floats numbers : List ℕ) (h : SetupBytes) : Type 0 where
  result : Built
  is : s ≡ done result
  ints_left : h.ints ≡ padded 0 (length ints) (bytes_of_ints result.ints)
  floats_left : h.floats ≡ padded 0 (length floats) (bytes_of_floats result.floats)
  numbers_left : h.numbers ≡ padded 0 (length numbers) (bytes_of_numbers (received (record_numbers result.setup) room))

module _ (room ints floats numbers : List ℕ) where
  abbrev handed_out : Bool → Bool → Outcome Built → SetupBytes
  handed_out fits known s = record {
    number = cond fits (whether known (answer_number (setup_answer s)) no_policy) misfit;
    ints = after (fits && known) (bytes_left (λ (b : Built). bytes_of_ints b.ints) s) ints;
    floats = after (fits && known) (bytes_left (λ (b : Built). bytes_of_floats b.floats) s) floats;
    numbers = after fits (answer_left (whether known (setup_values (setup_answer s)) []) room) numbers;
  }

  setup_taken : (fits known : Bool) (s : Outcome Built) → (handed_out fits known s).number ≡ 0 → SetupTaken s room ints floats numbers (handed_out fits known s)
  unfolding whether answer_number setup_answer setup_values bytes_left answer_left result_left ◌>>=◌ values_with
  setup_taken true true (done b) e = record { result = b; is = refl; ints_left = refl; floats_left = refl; numbers_left = refl }
  setup_taken true true (refused r) e = absurd (no_cause r e)
  setup_taken true false s e = absurd (omega (arith, e))
  setup_taken false known s e = absurd (omega (arith, e))

record RunTaken (o : Outcome (List Float)) (z left : List ℕ) : Type 0 where
  result : List Float
  is : o ≡ done result
  left_is : left ≡ padded 0 (length z) (bytes_of_floats result)

run_taken : (fits known : Bool) (o : Outcome (List Float)) (z : List ℕ) → cond fits (whether known (answer_number (answer_of o)) 26) misfit ≡ 0
    → RunTaken o z (after (fits && known) (bytes_left bytes_of_floats o) z)
unfolding whether answer_number answer_of bytes_left result_left ◌>>=◌
run_taken true true (done y) z e = record { result = y; is = refl; left_is = refl }
run_taken true true (refused r) z e = absurd (no_cause r e)
run_taken true false o z e = absurd (omega (arith, e))
run_taken false known o z e = absurd (omega (arith, e))

-- ---- what setup left, read back

module _ {a : Matrix} {o : Options} (s : Stages a o) (f64 : HoldsF64s (built s).setup) where
  read_numbers_lem : (room : List ℕ) (m : ℕ) → 15 ≤ length room → record_of (numbers_of (padded 0 m (bytes_of_numbers (received (record_numbers (built s).setup) room)))) ≡ (built s).setup
  unfolding padded
  read_numbers_lem room m h =
      let ns = record_numbers (built s).setup in
      let zs = replicate {A = ℕ} (length room - length ns) 0 in
      let t = m - length (bytes_of_numbers (ns ++ zs)) in
      let small : Each (λ x. x < 2 ^ 64) (ns ++ zs) = each_append (built_numbers s f64) (each_replicate (length room - length ns) 0 (pow_pos 64)) in
      rw (all_received (built s).setup room h, numbers_behind (ns ++ zs) t small, append_assoc ns zs (replicate (t / 8) 0)) (record_behind (built s).setup (zs ++ replicate (t / 8) 0) f64)

  module _ (m k : ℕ) where
    abbrev ints_bytes : List ℕ
    ints_bytes = padded 0 m (bytes_of_ints (built s).ints)

    abbrev floats_bytes : List ℕ
    floats_bytes = padded 0 k (bytes_of_floats (built s).floats)

    read_lists : (r : List Float) → length r ≡ a.rows → applied (built s).setup (ints_of ints_bytes) (floats_of floats_bytes) r ≡ applied_by s r
    unfolding padded
    read_lists r long =
        rw (ints_behind (built s).ints (m - length (bytes_of_ints (built s).ints)) (built_ints s), floats_behind (built s).floats (k - length (bytes_of_floats (built s).floats)) (built_fits s))
        (applied_read s _ _ r long)

  -- what an accepted run leaves spells the corrected vector
  run_spells : (b : Built) → b ≡ built s → (room : List ℕ) → 15 ≤ length room → (numbers ints floats : List ℕ) (i j k : ℕ)
      → numbers ≡ padded 0 i (bytes_of_numbers (received (record_numbers b.setup) room)) → ints ≡ padded 0 j (bytes_of_ints b.ints) → floats ≡ padded 0 k (bytes_of_floats b.floats)
      → (fit : Bool) (x : List ℕ) → length (floats_of x) ≡ a.rows → (n w : ℕ) (z : List ℕ) → (bytes_apply fit numbers ints floats x n w z).number ≡ 0
      → (t : ℕ) × (floats_of (bytes_apply fit numbers ints floats x n w z).correction ≡ applied_by s (floats_of x) ++ replicate t zeroᶠ)
  unfolding padded
  run_spells b is room h numbers ints floats i j k p q u fit x long n w z e =
      let r = floats_of x in
      let R = run_taken fit (is_record (numbers_of numbers)) (apply_call (record_of (numbers_of numbers)) (ints_of ints) (floats_of floats) r n w) z e in
      let y = R.result in
      let t = length z - length (bytes_of_floats y) in
      let setup : record_of (numbers_of numbers) ≡ (built s).setup = rw (p, is) (read_numbers_lem room i h) in
      let lists : applied (built s).setup (ints_of ints) (floats_of floats) r ≡ applied_by s r = rw (q, u, is) (read_lists j k r long) in
      let out : applied (record_of (numbers_of numbers)) (ints_of ints) (floats_of floats) r ≡ y = (handed (record_of (numbers_of numbers)) (ints_of ints) (floats_of floats) r n w y R.is).1 in
      let same : y ≡ applied_by s r = sym out ∙ ap (λ (v : Setup). applied v (ints_of ints) (floats_of floats) r) setup ∙ lists in
      let held : F64s y = subst F64s out (applied_fits (record_of (numbers_of numbers)) (ints_of ints) (floats_of floats) r) in
      (t / 8, ap floats_of R.left_is ∙ floats_behind y t held ∙ ap (λ (v : List Float). v ++ replicate (t / 8) zeroᶠ) same)

  applied_long : (r : List Float) → length r ≡ a.rows → length (applied_by s r) ≡ a.rows
  unfolding applied built_from
  applied_long r long = ap length (sym (applied_read s [] [] r long)) ∙ length_tab _ a.rows

pub separation_of_byte_exports : SeparationOfByteExports
unfolding options_of
separation_of_byte_exports rows cols row_ptr col_idx values size groupSize aggregation basis policy lent room ints floats numbers fits e h part x x' A z z' n n' w w' fit fit' d d' =
    let a = matrix_of rows cols row_ptr col_idx values in
    let o = options_of size groupSize aggregation basis policy in
    let S = setup_taken room ints floats numbers fits (are_policies aggregation basis policy) (setup_of a o (lengths_of lent)) e in
    let b = S.result in
    let y = stages_of a o (lengths_of lent) b S.is in
    let s = y.stages in
    let f64 : HoldsF64s (built s).setup = subst (λ (v : Built). HoldsF64s v.setup) y.is (setup_record_lem a o (lengths_of lent) b S.is) in
    let run = run_spells s f64 b y.is room h _ _ _ (length numbers) (length ints) (length floats) S.numbers_left S.ints_left S.floats_left in
    let u = run fit x A.long n w z d in
    let u' = run fit' x' A.long' n' w' z' d' in
    rw (u.1, u'.1)
    (agree_behind part size rows (applied_by s (floats_of x)) (applied_by s (floats_of x')) (replicate u.0 zeroᶠ) (replicate u'.0 zeroᶠ)
    (applied_long s f64 (floats_of x) A.long) (applied_long s f64 (floats_of x') A.long') (vectors_agree a o part (floats_of x) (floats_of x') A s))
