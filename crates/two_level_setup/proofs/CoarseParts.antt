-- The coarse part: the matrix in the front of the work floats, its factor in the front of the setup floats, and zeros behind both, before and after.
use Rattle.std.specs.Prelude.{Result}
use mathlib.Core.Path.{◌≡◌, refl, ap, sym, ◌∙◌, subst}
use mathlib.Core.List.{List, ◌++◌, append-nil}
use Prim.Native.Nat.{ℕ, ◌+◌, ◌-◌, ◌*◌, ◌≤◌}
use native.Mathlib.Omega.{arith}
use lib.ListN.{length, take, drop, replicate, length-append}
use lib.Seq.{take_at, drop_at, length-take-le, length_front}
use lib.Ieee.{Float}
use Rattle.definitions.specs.Lists.{padded, square}
use Rattle.definitions.specs.Numbers.{zeroᶠ, largest}
use Rattle.definitions.specs.Refusal.{Outcome, refused, done, ◌>>=◌}
use Rattle.definitions.specs.Matrix.{Matrix}
use Rattle.definitions.specs.Coarse.{averaged_square, averaged, entry_in, coarse_factor, coarse_part}
use Rattle.definitions.specs.Setup.{Lent, coarse_entry, transfer_floats, lent_of}
use Rattle.definitions.specs.declared.Setup.{Setup}
use Rattle.laws.proofs.Lists.{length_square}
use Rattle.laws.proofs.Outcomes.{bind_done, done_inj}
use Rattle.two_level_setup.specs.Stages.{Parts, parts_answer, filled, matrix_of, measured, stored, coarse_stage}
use Rattle.two_level_setup.specs.Fit.{Ample}
use Rattle.two_level_setup.specs.Promises.{room_in, Holds, Simulates, Weighed, MatrixStage, Factored, factored_answer}
use Rattle.two_level_setup.proofs.Padding.{padded_all, padded_join}
use Rattle.two_level_setup.proofs.Lending.{taken_zeros, put_zeros, front_padded, put_front}
use Rattle.definitions.specs.declared.Refusal.{Refusal}

square_long : (n : ℕ) (l : List Float) → length (averaged_square n l) ≡ n * n
unfolding averaged_square
square_long n l = length_square n (averaged (entry_in l n))

matrix_long : (a : Matrix) (p : Parts) → length (matrix_of a p) ≡ p.setup.coarse * p.setup.coarse
unfolding matrix_of
matrix_long a p = square_long p.setup.coarse (square p.setup.coarse (coarse_entry p.setup.basis a p.setup.block p.ids p.weights))

-- the factor's answer is the stage's
told : (entries : ℕ) (s : Setup) (p : Parts) (m : List Float) (f : Outcome (List Float)) → p.setup ≡ s → factored_answer (measured entries s m) (largest m) f ≡ parts_answer (f >>= (λ l. done (stored entries p m l)))
unfolding factored_answer parts_answer measured filled stored ◌>>=◌
told entries s p m (done l) e = rw e
told entries s p m (refused r) e = refl

module _ (a : Matrix) (s : Setup) (memory : Lent) (w : Ample a s (room_in memory))
    (backInts : List ℕ) (made : List Float) (li : length backInts ≡ length (take (a.rows + 2 * s.coarse) memory.work_ints)) (lm : length made ≡ length (take (s.coarse * s.coarse + s.coarse) memory.work_floats)) where
  abbrev c : ℕ
  c = s.coarse

  abbrev entries : ℕ
  entries = length a.values

  abbrev few : ℕ
  few = a.rows + 2 * c

  abbrev part : ℕ
  part = c * c + c

  abbrev start : ℕ
  start = a.rows * s.block + s.transfers

  abbrev stop : ℕ
  stop = start + c * c

  -- the work floats behind the coarse matrix
  abbrev work : List Float
  work = made ++ drop part memory.work_floats

  part_fits : part ≤ length memory.work_floats
  part_fits = omega (arith, w.work_floats)

  stop_fits : stop ≤ length memory.floats
  stop_fits = omega (arith, w.floats, w.counted.transfers)

  made_long : length made ≡ part
  made_long = lm ∙ length-take-le part memory.work_floats part_fits

  made_back : take part work ≡ made
  made_back = take_at made (drop part memory.work_floats) part made_long

  work_long : length work ≡ length memory.work_floats
  work_long = length_front memory.work_floats made part lm

  pub stop_front : length (take stop memory.floats) ≡ stop
  stop_front = length-take-le stop memory.floats stop_fits

  pub work_front : length (take part work) ≡ part
  work_front = ap length made_back ∙ made_long

  pub factor_fits : (c ≤ 2048) × (start + c * c ≤ length (take stop memory.floats)) × (c * c ≤ length (take part work))
  factor_fits = (w.small, rw stop_front (omega arith), rw work_front (omega arith))

  module _ (r : (Result Setup Refusal)) (floats1 back : List Float) (lf : length floats1 ≡ length (take stop memory.floats)) (lb : length back ≡ length (take part work)) where
    pub coarse_left : MatrixStage a s memory.ints memory.floats (take few memory.work_ints) (take part memory.work_floats) backInts made → Factored (measured entries s (take (c * c) (take part work))) start (take stop memory.floats) (take part work) r floats1 back
        → Simulates (Weighed a) (coarse_stage a) s memory r (lent_of memory.ints (floats1 ++ drop stop memory.floats) (backInts ++ drop few memory.work_ints) (back ++ drop part work))
    unfolding coarse_stage stored measured filled
    coarse_left stage fd p es wd h = record {
      answer = fd.answer ∙ ap (λ l. factored_answer (measured entries s l) (largest l) (coarse_factor c l)) is ∙ ap (λ n. factored_answer (measured entries s mm) (largest mm) (coarse_factor n mm)) c_same ∙ told entries s p mm (coarse_factor p.setup.coarse mm) es;
      left = λ q eq.
          let d = bind_done (coarse_factor p.setup.coarse mm) (λ l. done (stored entries p mm l)) q eq in
          let el : coarse_factor c (take (c * c) (take part work)) ≡ done d.0 = ap (λ l. coarse_factor c l) is ∙ ap (λ n. coarse_factor n mm) c_same ∙ d.1 in
          subst (λ z. Holds z (lent_of memory.ints (floats1 ++ drop stop memory.floats) (backInts ++ drop few memory.work_ints) (back ++ drop part work))) (done_inj d.2) (holds d.0 el);
    }
      where
        mm : List Float
        mm = matrix_of a p

        lent : Holds p (lent_of memory.ints memory.floats (take few memory.work_ints) (take part memory.work_floats))
        lent = record { ints = h.ints; floats = h.floats; work_ints = taken_zeros 0 few memory.work_ints h.work_ints; work_floats = taken_zeros zeroᶠ part memory.work_floats h.work_floats }

        c_same : c ≡ p.setup.coarse
        c_same = ap (λ (t : Setup). t.coarse) (sym es)

        out : (backInts ≡ replicate (length (take few memory.work_ints)) 0) × (made ≡ padded zeroᶠ (length (take part memory.work_floats)) mm)
        out = stage p es wd lent

        is : take (c * c) (take part work) ≡ mm
        is = rw (made_back, out.1) (padded_all zeroᶠ (length (take part memory.work_floats)) (c * c) mm (matrix_long a p ∙ rw c_same))

        -- what stands before the coarse part
        before : List Float
        before = p.factors ++ transfer_floats p.weights

        before_long : length before ≡ start
        before_long = length-append p.factors (transfer_floats p.weights) ∙ rw (wd.sound.factors, wd.sound.transfers, es)

        stands : memory.floats ≡ padded zeroᶠ (length memory.floats) before
        stands = h.floats ∙ ap (λ l. padded zeroᶠ (length memory.floats) (before ++ l)) wd.sound.coarse ∙ ap (λ l. padded zeroᶠ (length memory.floats) l) (append-nil before)

        short : length before ≤ stop
        short = rw before_long (omega arith)

        front : take start (take stop memory.floats) ≡ before
        front = ap (λ l. take start l) (front_padded zeroᶠ stop memory.floats before stands short stop_fits) ∙ padded_all zeroᶠ (length (take stop memory.floats)) start before before_long

        holds : (l : List Float) → coarse_factor c (take (c * c) (take part work)) ≡ done l → Holds (stored entries p mm l) (lent_of memory.ints (floats1 ++ drop stop memory.floats) (backInts ++ drop few memory.work_ints) (back ++ drop part work))
        holds l el =
            let cp : List Float = coarse_part p.setup.policy p.setup.coarse l in
            let fs : floats1 ≡ padded zeroᶠ (length (take stop memory.floats)) (before ++ cp)
            = fd.part l el ∙ ap (λ (t : Setup). take start (take stop memory.floats) ++ padded zeroᶠ (length (take stop memory.floats) - start) (coarse_part t.policy t.coarse l)) (sym es)
            ∙ ap (λ x. x ++ padded zeroᶠ (length (take stop memory.floats) - start) cp) front ∙ padded_join zeroᶠ (length (take stop memory.floats)) start before cp before_long in
            let rest : drop part work ≡ drop part memory.work_floats = drop_at made (drop part memory.work_floats) part made_long in
            let zs : back ≡ replicate (length (take part memory.work_floats)) zeroᶠ = fd.clear l el ∙ ap (λ x. replicate (length x) zeroᶠ) made_back ∙ ap (λ n. replicate n zeroᶠ) lm in
            record {
              ints = h.ints;
              floats = put_front zeroᶠ stop memory.floats before stands short stop_fits floats1 (before ++ cp) fs lf ∙ ap (λ n. padded zeroᶠ n (before ++ cp)) (sym (length_front memory.floats floats1 stop lf));
              work_ints = put_zeros 0 few memory.work_ints backInts h.work_ints out.0 ∙ ap (λ n. replicate n 0) (sym (length_front memory.work_ints backInts few li));
              work_floats = ap (λ x. back ++ x) rest ∙ put_zeros zeroᶠ part memory.work_floats back h.work_floats zs ∙ ap (λ n. replicate n zeroᶠ) (sym (length_front work back part lb ∙ work_long));
            }
