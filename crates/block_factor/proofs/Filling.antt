-- Blocks one by one, and two at a time: what is left to do gives, from the factors so far, what the whole gives.
use Rattle.std.specs.Prelude.{Err, Ok, Result}
use Prim.Native.Nat.{ℕ, zero, suc, ◌+◌, ◌-◌, ◌*◌, ◌<◌, ◌≤◌}
use mathlib.Core.Path.{◌≡◌, refl, ap, sym, ◌∙◌}
use mathlib.Core.Bool.{Bool, true, false}
use mathlib.Core.List.{List, ◌++◌, append_assoc}
use native.Mathlib.Omega.{arith}
use native.Mathlib.Numerals.{add-one}
use native.Mathlib.Nat.{suc-mul, zero-mul}
use lib.ListN.{length, get_or, set, take, drop, replicate, length-append, take-append-drop}
use lib.Seq.{length-take-le, take_at}
use lib.Ieee.{Float, nan}
use borrow.Rule.Slice.PartMut.{put_mid}
use Rattle.definitions.specs.Numbers.{◌*ᶠ◌, rootᶠ, zeroᶠ, above, symmetry_tol, pivot_tol}
use Rattle.definitions.specs.Refusal.{Outcome, refused, done, ◌>>=◌, keeps_all, cause_of}
use Rattle.definitions.specs.Matrix.{Matrix}
use Rattle.definitions.specs.Factor.{rest, below_diagonal, factor_rows}
use Rattle.definitions.specs.Block.{in_block, top_of, skewed, block_of, block_factor, block_count, width_of, factors_from, factors_of}
use Rattle.definitions.specs.Answers.{answer_of}
use Rattle.definitions.specs.declared.Refusal.{Refusal}
use Rattle.definitions.specs.declared.Refusal.TheVariants.{BlockNotSymmetric}
use Rattle.csr32.specs.Calls.{refused_is, goes_on, stops}
use Rattle.block_factor.specs.Factored.{pivot_row}
use Rattle.block_factor.specs.Held.{held, PairIn}
use Rattle.block_factor.proofs.Turns.{PairTurn, place_long}

-- ---- causes 14 and 15 leave zero

module _ (place : ℕ → ℕ → ℕ) (a : ℕ → ℕ → Float) (bad : ℕ → Refusal) (clears : (i : ℕ) → keeps_all (bad i) ≡ false) where
  from_clears : (tol : Float) (n i : ℕ) (l : List Float) (r : Refusal) → factor_rows place bad a tol n i l ≡ refused r → keeps_all r ≡ false
  unfolding factor_rows
  from_clears tol zero i l r e = cc
  from_clears tol (suc n) i l r e =
      step (above tol (rest place a (below_diagonal place a i i l) i i)) refl
      (from_clears tol n (suc i) (set (below_diagonal place a i i l) (place i i) (rootᶠ (rest place a (below_diagonal place a i i l) i i))) r)
    where
      step : (b : Bool) → above tol (rest place a (below_diagonal place a i i l) i i) ≡ b
          → (factor_rows place bad a tol n (suc i) (set (below_diagonal place a i i l) (place i i) (rootᶠ (rest place a (below_diagonal place a i i l) i i))) ≡ refused r → keeps_all r ≡ false)
          → keeps_all r ≡ false
      step true p ih = ih (rw (p, factor_rows) at e)
      step false p ih =
          let q : refused (bad i) ≡ refused r = rw (p, factor_rows) at e in
          let g : bad i ≡ r = cc in
          ap keeps_all (sym g) ∙ clears i

pub block_clears : (m : Matrix) (first w : ℕ) (r : Refusal) → block_factor m first w ≡ refused r → keeps_all r ≡ false
unfolding block_factor keeps_all cause_of
block_clears m first w r e = step (skewed (block_of m first w) w (symmetry_tol *ᶠ top_of (block_of m first w))) refl
  where
    step : (b : Bool) → skewed (block_of m first w) w (symmetry_tol *ᶠ top_of (block_of m first w)) ≡ b → keeps_all r ≡ false
    step true p =
        let q : refused (BlockNotSymmetric first) ≡ refused r = rw (p, block_factor) at e in
        let g : BlockNotSymmetric first ≡ r = cc in
        ap keeps_all (sym g)
    step false p = from_clears (in_block w) (λ i j. get_or (block_of m first w) (in_block w i j) nan) (pivot_row first) (λ i. refl) (pivot_tol *ᶠ top_of (block_of m first w)) w 0 (replicate (w * w) zeroᶠ) r (rw (p, block_factor) at e)

-- the outcome of a block, from its answer
is_accepted : (o : Outcome (List Float)) (place : List Float) → answer_of o ≡ (Ok tt) → o ≡ done (held o place)
unfolding answer_of held
is_accepted (done l) place e = refl
is_accepted (refused r) place e = cc

-- ---- a part written, from one position up to another: what stands before it is kept, and it follows

module _ (used end : ℕ) (d p : List Float) (u : used ≤ end) (fits : end ≤ length d) (lp : length p ≡ length (take (end - used) (drop used d))) where
  before : length (take used d) ≡ used
  before = length-take-le used d (omega arith)

  pub kept : take used (put_mid used (end - used) d p) ≡ take used d
  kept = take_at (take used d) (p ++ drop (end - used) (drop used d)) used before

  front : take end (put_mid used (end - used) d p) ≡ take used d ++ p
  front =
      let q : length (take used d ++ p) ≡ end = length-append (take used d) p ∙ omega (arith, before, lp, place_long used end (end - used) d (omega arith) fits) in
      ap (λ l. take end l) (sym (append_assoc (take used d) p (drop (end - used) (drop used d)))) ∙ take_at (take used d ++ p) (drop (end - used) (drop used d)) end q

-- ---- one block more, where k blocks are there

module _ (m : Matrix) (size : ℕ) where
  pub blocks_none : (d : List Float) → factors_from m size (block_count m.rows size - 0) 0 (take (0 * size * size) d) ≡ factors_of m size
  unfolding factors_of
  blocks_none d = let z : block_count m.rows size - 0 ≡ block_count m.rows size = omega arith in rw (z, zero-mul size, zero-mul size)

  module _ (k w : ℕ) (h : k < block_count m.rows size) (ew : w ≡ width_of m.rows size k) (so_far : List Float)
      (inv : factors_from m size (block_count m.rows size - k) k so_far ≡ factors_of m size) where
    here : factors_from m size (suc (block_count m.rows size - suc k)) k so_far ≡ factors_of m size
    here = let z : suc (block_count m.rows size - suc k) ≡ block_count m.rows size - k = omega arith in rw z inv

    opened : (block_factor m (k * size) w >>= (λ l. factors_from m size (block_count m.rows size - suc k) (suc k) (so_far ++ l))) ≡ factors_of m size
    unfolding factors_from
    opened = rw ew here

    one_more : (l : List Float) → block_factor m (k * size) w ≡ done l → factors_from m size (block_count m.rows size - suc k) (suc k) (so_far ++ l) ≡ factors_of m size
    one_more l o = sym (goes_on (block_factor m (k * size) w) l _ o) ∙ opened

  module _ (k used end w : ℕ) (h : k < block_count m.rows size) (ew : w ≡ width_of m.rows size k) (ee : end ≡ used + w * w) (d p : List Float) (fits : end ≤ length d)
      (lp : length p ≡ length (take (end - used) (drop used d))) (ep : p ≡ held (block_factor m (k * size) w) (take (end - used) (drop used d)))
      (inv : factors_from m size (block_count m.rows size - k) k (take used d) ≡ factors_of m size) (x : (Result (Unit {0}) Refusal)) (ex : x ≡ answer_of (block_factor m (k * size) w)) where
    pub blocks_more : x ≡ (Ok tt) → factors_from m size (block_count m.rows size - (k + 1)) (k + 1) (take end (put_mid used (end - used) d p)) ≡ factors_of m size
    blocks_more e =
        let o : block_factor m (k * size) w ≡ done p = is_accepted (block_factor m (k * size) w) (take (end - used) (drop used d)) (sym ex ∙ e) ∙ ap done (sym ep) in
        rw (add-one k, front used end d p (omega arith) fits lp) (one_more k w h ew (take used d) inv p o)

    pub blocks_stop : (r : Refusal) → x ≡ Err r → (factors_of m size ≡ refused r) × (keeps_all r ≡ false)
    blocks_stop r e =
        let o : block_factor m (k * size) w ≡ refused r = refused_is (block_factor m (k * size) w) r (sym ex ∙ e) in
        (sym (opened k w h ew (take used d) inv) ∙ stops (block_factor m (k * size) w) r _ o, block_clears m (k * size) w r o)

  -- and two more at once
  pub pairs_more : (k used end : ℕ) (t : PairTurn m.rows size k) (d p : List Float) → used ≤ end → end ≤ length d → length p ≡ length (take (end - used) (drop used d))
      → factors_from m size (block_count m.rows size - k) k (take used d) ≡ factors_of m size → PairIn m (k * size) size p
      → factors_from m size (block_count m.rows size - (k + 2)) (k + 2) (take end (put_mid used (end - used) d p)) ≡ factors_of m size
  pairs_more k used end t d p u fits lp inv i =
      let e : k + 2 ≡ suc (suc k) = omega arith in
      let next : block_factor m (suc k * size) size ≡ done (drop (size * size) p) = rw suc-mul i.two in
      let one = one_more k size (omega (arith, t.there)) t.one (take used d) inv (take (size * size) p) i.one in
      let two = one_more (suc k) size t.there t.two (take used d ++ take (size * size) p) one (drop (size * size) p) next in
      let q : (take used d ++ take (size * size) p) ++ drop (size * size) p ≡ take used d ++ p
      = append_assoc (take used d) (take (size * size) p) (drop (size * size) p) ∙ ap (λ l. take used d ++ l) (take-append-drop (size * size) p) in
      rw (e, front used end d p u fits lp, ← q) two

  pub blocks_all : (k used : ℕ) (d : List Float) → k ≡ block_count m.rows size → factors_from m size (block_count m.rows size - k) k (take used d) ≡ factors_of m size → factors_of m size ≡ done (take used d)
  unfolding factors_from
  blocks_all k used d e inv = let z : block_count m.rows size - k ≡ 0 = omega arith in sym inv ∙ rw z
