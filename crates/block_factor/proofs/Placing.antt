-- A block's factor in its place, from what gathering and factoring answer.
use Rattle.std.specs.Prelude.{Err, Ok}
use Prim.Native.Nat.{ℕ, zero, suc, ◌+◌, ◌-◌, ◌*◌, ◌≤◌}
use mathlib.Core.Path.{◌≡◌, refl, ap, sym, ◌∙◌}
use mathlib.Core.Bool.{Bool, true, false}
use mathlib.Core.List.{List, ◌++◌, append-nil}
use native.Mathlib.Omega.{arith}
use native.Mathlib.Nat.{le_refl}
use lib.ListN.{length, get_or, set, take, drop, replicate, length-set, length-replicate, length-append, length-drop, drop_of_length-le}
use lib.Seq.{length-take-le, take_at, drop_at}
use lib.Ieee.{Float, nan}
use borrow.Rule.Slice.PartMut.{put_mid}
use Rattle.numbers.specs.Copied.{copied}
use Rattle.laws.proofs.BlockFactors.{block_placing}
use Rattle.definitions.specs.Numbers.{◌*ᶠ◌, rootᶠ, above, zeroᶠ, symmetry_tol, pivot_tol}
use Rattle.definitions.specs.Refusal.{refused, done, ◌>>=◌}
use Rattle.definitions.specs.Matrix.{Matrix}
use Rattle.definitions.specs.Factor.{rest, below_diagonal, factor_rows}
use Rattle.definitions.specs.Block.{in_block, top_of, skewed, block_of, block_factor}
use Rattle.definitions.specs.Answers.{answer_of}
use Rattle.definitions.specs.declared.Refusal.{Refusal}
use Rattle.block_factor.specs.declared.dense.Block.{Block}
use Rattle.block_factor.specs.Dense.{blank, dense}
use Rattle.block_factor.specs.Factored.{pivot_row, factor_of, FactorOf}
use Rattle.block_factor.specs.Held.{held, PairIn}
use Rattle.block_factor.proofs.Front.{blank_front, factor_front}
use Rattle.block_factor.proofs.Turns.{place_long}

-- ---- a factor has as many numbers as it was begun with

module _ (place : ℕ → ℕ → ℕ) (a : ℕ → ℕ → Float) where
  length_left : (i j : ℕ) (l : List Float) → length (below_diagonal place a i j l) ≡ length l
  unfolding below_diagonal
  length_left i zero l = refl
  length_left i (suc j) l = simp length-set (length_left i j l)

  length_from : (bad : ℕ → Refusal) (tol : Float) (n i : ℕ) (l r : List Float) → factor_rows place bad a tol n i l ≡ done r → length r ≡ length l
  unfolding factor_rows
  length_from bad tol zero i l r e = let q : l ≡ r = cc in ap length (sym q)
  length_from bad tol (suc n) i l r e =
      step (above tol (rest place a (below_diagonal place a i i l) i i)) refl
      (length_from bad tol n (suc i) (set (below_diagonal place a i i l) (place i i) (rootᶠ (rest place a (below_diagonal place a i i l) i i))) r)
    where
      step : (b : Bool) → above tol (rest place a (below_diagonal place a i i l) i i) ≡ b
          → (factor_rows place bad a tol n (suc i) (set (below_diagonal place a i i l) (place i i) (rootᶠ (rest place a (below_diagonal place a i i l) i i))) ≡ done r
          → length r ≡ length (set (below_diagonal place a i i l) (place i i) (rootᶠ (rest place a (below_diagonal place a i i l) i i))))
          → length r ≡ length l
      step true p ih = ih (rw (p, factor_rows) at e) ∙ simp length-set (length_left i i l)
      step false p ih = let q : refused (bad i) ≡ done r = rw (p, factor_rows) at e in cc

pub length_factor : (first w : ℕ) (d l : List Float) → factor_of first w d ≡ done l → length l ≡ 64
unfolding factor_of blank
length_factor first w d l e = step (skewed d w (symmetry_tol *ᶠ top_of d)) refl
  where
    step : (b : Bool) → skewed d w (symmetry_tol *ᶠ top_of d) ≡ b → length l ≡ 64
    step true p = let q : refused _ ≡ done l = rw (p, factor_of) at e in cc
    step false p = length_from (in_block w) (λ i j. get_or d (in_block w i j) nan) (pivot_row first) (pivot_tol *ᶠ top_of d) w 0 blank l (rw (p, factor_of) at e) ∙ length-replicate 64 zeroᶠ

-- ---- the block's factor, from the factor of its numbers

factor_is : (m : Matrix) (first w : ℕ) → w * w ≤ 64 → block_factor m first w ≡ (factor_of first w (block_of m first w) >>= (λ l. done (take (w * w) l)))
unfolding block_factor factor_of ◌>>=◌
factor_is m first w h = step (skewed (block_of m first w) w (symmetry_tol *ᶠ top_of (block_of m first w))) refl
  where
    numbers : ℕ → ℕ → Float
    numbers i j = get_or (block_of m first w) (in_block w i j) nan

    front : factor_rows (in_block w) (pivot_row first) numbers (pivot_tol *ᶠ top_of (block_of m first w)) w 0 (replicate (w * w) zeroᶠ)
        ≡ (factor_rows (in_block w) (pivot_row first) numbers (pivot_tol *ᶠ top_of (block_of m first w)) w 0 blank >>= (λ l. done (take (w * w) l)))
    front =
        ap (λ l. factor_rows (in_block w) (pivot_row first) numbers (pivot_tol *ᶠ top_of (block_of m first w)) w 0 l) (sym (blank_front (w * w) h))
        ∙ factor_front (in_block w) numbers w (w * w) (block_placing w (w * w) (le_refl (w * w))) (pivot_row first) (pivot_tol *ᶠ top_of (block_of m first w)) w 0 blank (omega arith)

    step : (b : Bool) → skewed (block_of m first w) w (symmetry_tol *ᶠ top_of (block_of m first w)) ≡ b → block_factor m first w ≡ (factor_of first w (block_of m first w) >>= (λ l. done (take (w * w) l)))
    step true p = rw (p, block_factor, factor_of)
    step false p = rw (p, block_factor, factor_of) front

-- copied into a place of its size
copied_front : (n : ℕ) (l place p : List Float) → length l ≡ 64 → length place ≡ n → n ≤ 64 → p ≡ copied l place → p ≡ take n l
unfolding copied
copied_front n l place p nl np h ep = ep ∙ rw (np, drop_of_length-le place {i = length l} (omega arith), append-nil)

placed : (m : Matrix) (first w : ℕ) (l place p : List Float) → factor_of first w (block_of m first w) ≡ done l → length place ≡ w * w → w * w ≤ 64 → p ≡ copied l place → block_factor m first w ≡ done p
unfolding ◌>>=◌
placed m first w l place p o n h ep = factor_is m first w h ∙ rw (o, copied_front (w * w) l place p (length_factor first w (block_of m first w) l o) n h ep)

placed_length : (first w : ℕ) (d l place p : List Float) → factor_of first w d ≡ done l → length place ≡ w * w → w * w ≤ 64 → p ≡ copied l place → length p ≡ w * w
placed_length first w d l place p o n h ep =
    let k : length l ≡ 64 = length_factor first w d l o in
    ap length (copied_front (w * w) l place p k n h ep) ∙ length-take-le (w * w) l (omega arith)

module _ (m : Matrix) (first w : ℕ) (b : Block) (eb : dense w b.a ≡ block_of m first w) (ew : b.size ≡ w) (h : w * w ≤ 64) where
  made_is : factor_of first b.size (dense b.size b.a) ≡ factor_of first w (block_of m first w)
  made_is = rw (ew, eb)

  pub into_refused : (r : Refusal) (place : List Float) → factor_of first b.size (dense b.size b.a) ≡ refused r → (Err r ≡ answer_of (block_factor m first w)) × (place ≡ held (block_factor m first w) place)
  unfolding answer_of held ◌>>=◌
  into_refused r place e = let o : factor_of first w (block_of m first w) ≡ refused r = sym made_is ∙ e in (rw (factor_is m first w h, o), rw (factor_is m first w h, o))

  pub into_accepted : (l place p : List Float) → factor_of first b.size (dense b.size b.a) ≡ done l → length place ≡ w * w → p ≡ copied l place
      → ((Ok tt) ≡ answer_of (block_factor m first w)) × (p ≡ held (block_factor m first w) place)
  unfolding answer_of held
  into_accepted l place p e n ep = let q : block_factor m first w ≡ done p = placed m first w l place p (sym made_is ∙ e) n h ep in (rw q, rw q)

-- ---- two of them, one after the other

-- both written
halves : (n : ℕ) (place p q : List Float) → length place ≡ n + n → length p ≡ n → put_mid n (length (p ++ drop n place) - n) (p ++ drop n place) q ≡ p ++ q
halves n place p q lp lq =
    let d : length (drop n place) ≡ n = length-drop n place ∙ omega arith in
    let k : length (drop n place) ≤ length (p ++ drop n place) - n = omega (arith, length-append p (drop n place)) in
    rw (take_at p (drop n place) n lq, drop_at p (drop n place) n lq, drop_of_length-le (drop n place) k, append-nil)

module _ (m : Matrix) (first w : ℕ) (b c : Block) (one two : List Float) (eb : dense w b.a ≡ block_of m first w) (ew : b.size ≡ w) (ec : dense w c.a ≡ block_of m (first + w) w) (cw : c.size ≡ w)
    (em : FactorOf b.size (dense b.size b.a) one × FactorOf c.size (dense c.size c.a) two) where
  factor_one : factor_of first w (block_of m first w) ≡ done one
  factor_one = rw (← eb) (rw ew at (em.0 first))

  factor_two : factor_of (first + w) w (block_of m (first + w) w) ≡ done two
  factor_two = rw (← ec) (rw cw at (em.1 (first + w)))

  pub pair_placed : (place p q : List Float) → length place ≡ w * w + w * w → w * w ≤ 64 → p ≡ copied one (take (w * w) place)
      → q ≡ copied two (take (length (p ++ drop (w * w) place) - w * w) (drop (w * w) (p ++ drop (w * w) place)))
      → PairIn m first w (put_mid (w * w) (length (p ++ drop (w * w) place) - w * w) (p ++ drop (w * w) place) q)
  pair_placed place p q l h ep eq =
      let lp : length (take (w * w) place) ≡ w * w = length-take-le (w * w) place (omega arith) in
      let np : length p ≡ w * w = placed_length first w (block_of m first w) one (take (w * w) place) p factor_one lp h ep in
      let lq : length (take (length (p ++ drop (w * w) place) - w * w) (drop (w * w) (p ++ drop (w * w) place))) ≡ w * w
      = place_long (w * w) (length (p ++ drop (w * w) place)) (w * w) (p ++ drop (w * w) place) (length-append p (drop (w * w) place) ∙ omega (arith, length-drop (w * w) place)) (le_refl _) in
      let e = halves (w * w) place p q l np in
      record {
        one = placed m first w one (take (w * w) place) p factor_one lp h ep ∙ ap done (sym (ap (λ r. take (w * w) r) e ∙ take_at p q (w * w) np));
        two = placed m (first + w) w two _ q factor_two lq h eq ∙ ap done (sym (ap (λ r. drop (w * w) r) e ∙ drop_at p q (w * w) np));
      }
