-- Solves keep two sets of columns apart where the factor, or the inverse, has no entry between them: such an entry times anything finite is a zero, and a zero changes no sum.
use mathlib.Core.Path.{◌≡◌, refl, sym, ap, subst}
use mathlib.Core.Logic.{◌⊎◌, inl, inr}
use mathlib.Core.Bool.{Bool, true, false, not, cond}
use mathlib.Core.List.{List, flat_map}
use Prim.Native.Nat.{ℕ, suc, ◌+◌, ◌-◌, ◌<◌}
use native.Mathlib.Nat.{le_refl}
use native.Mathlib.Omega.{arith}
use lib.Dec.{T, eqb, eqb→eq}
use lib.ListN.{length, get_or}
use lib.Ieee.{Float, nan, unlike}
use Rattle.definitions.specs.Lists.{tab, up_to}
use Rattle.definitions.specs.Numbers.{◌+ᶠ◌, ◌-ᶠ◌, ◌*ᶠ◌, ◌/ᶠ◌, zeroᶠ, oneᶠ, half, summed, reduced}
use Rattle.definitions.specs.Block.{lower, forward, backward, block_solve}
use Rattle.definitions.specs.Coarse.{entry_in, averaged, averaged_square, packed_entry, packed_forward, packed_backward, packed_solve, unit, inverse_of, coarse_part, coarse_solve}
use Rattle.definitions.specs.declared.TwoLevelCoarseApplyPolicy.{TwoLevelCoarseApplyPolicy}
use Rattle.definitions.specs.declared.TwoLevelCoarseApplyPolicy.TheVariants.{Auto, FactorSolve, ExplicitInverse}
use Rattle.laws.proofs.Lists.{get_d_tab, get_d_square, get_d_rows, each_tab}
use Rattle.laws.proofs.Near.{Near, Vanishing, near_scale, near_lost, near_sub, near_div, nears_tab, vanish_add, vanish_sub, vanish_mul_l, vanish_mul_r, vanish_div, vanish_summed, vanish_zero, zero_zero}
use Rattle.laws.proofs.NearSums.{near_summed, near_reduced}
use Rattle.separation.proofs.Solves.{grown_all, stacked_all, stacked_length}

pub split : (b : Bool) → T b ⊎ T (not b)
split true = inl tt
split false = inr tt

pub differ : (p q : Bool) → T p → T (not q) → T (unlike p q)
differ true false a b = tt
differ false q a b = elim a [ ]
differ true true a b = elim b [ ]

pub differ_back : (p q : Bool) → T p → T (not q) → T (unlike q p)
differ_back true false a b = tt
differ_back false q a b = elim a [ ]
differ_back true true a b = elim b [ ]

-- of the entries below the diagonal, those between columns of Q and others vanish
abbrev pub Parted : ℕ → (ℕ → ℕ → Float) → (ℕ → Bool) → Type 0
Parted c entry Q = (i k : ℕ) → k < i → i < c → T (unlike (Q i) (Q k)) → Vanishing (entry i k)

-- ---- the packed solve

row_at : List Float → List Float → ℕ → List Float → Float
row_at l b i y = (get_or b i nan -ᶠ summed (tab (λ k. packed_entry l i k *ᶠ get_or y k nan) i)) /ᶠ packed_entry l i i

row_back : List Float → ℕ → List Float → ℕ → List Float → Float
row_back l c y k x = (get_or y (c - suc k) nan -ᶠ summed (tab (λ m. packed_entry l (suc (c - suc k) + m) (c - suc k) *ᶠ get_or x m nan) k)) /ᶠ packed_entry l (c - suc k) (c - suc k)

after : (c k m : ℕ) → k < c → suc (c - suc k) + m ≡ c - k + m
after c k m h = omega arith

in_range : (c k m : ℕ) → k < c → m < k → c - k + m < c
in_range c k m h g = omega arith

below : (c k m : ℕ) → k < c → c - suc k < c - k + m
below c k m h = omega arith

in_place : (c k : ℕ) → k < c → c - suc k < c
in_place c k h = omega arith

module _ (c : ℕ) (l : List Float) (Q : ℕ → Bool) (P : Parted c (packed_entry l) Q) where
  -- right sides that are near on Q give solutions that are near on Q
  pub forward_near : (b b' : List Float) → ((i : ℕ) → i < c → T (Q i) → Near (get_or b i nan) (get_or b' i nan))
      → (i : ℕ) → i < c → T (Q i) → Near (get_or (packed_forward l b c) i nan) (get_or (packed_forward l b' c) i nan)
  unfolding packed_forward row_at
  forward_near b b' B i h =
      grown_all (λ j x x'. T (Q j) → Near x x') (packed_forward l b) (packed_forward l b') (row_at l b) (row_at l b') refl refl (λ j. refl) (λ j. refl) c step c (le_refl c) i h
    where
      step : (j : ℕ) → j < c → (y y' : List Float) → ((k : ℕ) → k < j → T (Q k) → Near (get_or y k nan) (get_or y' k nan)) → T (Q j) → Near (row_at l b j y) (row_at l b' j y')
      step j g y y' ih q =
          near_div _ _ (packed_entry l j j) (near_sub (get_or b j nan) (get_or b' j nan) _ _ (B j g q)
          (near_summed (nears_tab (λ k. packed_entry l j k *ᶠ get_or y k nan) (λ k. packed_entry l j k *ᶠ get_or y' k nan) j (λ k t. term k t (split (Q k))))))
        where
          term : (k : ℕ) → k < j → T (Q k) ⊎ T (not (Q k)) → Near (packed_entry l j k *ᶠ get_or y k nan) (packed_entry l j k *ᶠ get_or y' k nan)
          term k t (inl u) = near_scale (packed_entry l j k) (get_or y k nan) (get_or y' k nan) (ih k t u)
          term k t (inr u) = near_lost (packed_entry l j k) (get_or y k nan) (get_or y' k nan) (P j k t g (differ (Q j) (Q k) q u))

  pub backward_near : (y y' : List Float) → ((i : ℕ) → i < c → T (Q i) → Near (get_or y i nan) (get_or y' i nan))
      → (i : ℕ) → i < c → T (Q i) → Near (get_or (packed_backward l c y c) i nan) (get_or (packed_backward l c y' c) i nan)
  unfolding packed_backward row_back
  backward_near y y' B =
      stacked_all (λ j x x'. T (Q j) → Near x x') (packed_backward l c y) (packed_backward l c y') (row_back l c y) (row_back l c y') (λ k. refl) (λ k. refl) c step
    where
      step : (k : ℕ) → k < c → (x x' : List Float) → ((m : ℕ) → m < k → T (Q (c - k + m)) → Near (get_or x m nan) (get_or x' m nan)) → T (Q (c - suc k))
          → Near (row_back l c y k x) (row_back l c y' k x')
      step k g x x' ih q =
          let i = c - suc k in
          near_div _ _ (packed_entry l i i) (near_sub (get_or y i nan) (get_or y' i nan) _ _ (B i (in_place c k g) q)
          (near_summed (nears_tab (λ m. packed_entry l (suc i + m) i *ᶠ get_or x m nan) (λ m. packed_entry l (suc i + m) i *ᶠ get_or x' m nan) k
          (λ m t. subst (λ (j : ℕ). Near (packed_entry l j i *ᶠ get_or x m nan) (packed_entry l j i *ᶠ get_or x' m nan)) (sym (after c k m g)) (term m t (split (Q (c - k + m))))))))
        where
          term : (m : ℕ) → m < k → T (Q (c - k + m)) ⊎ T (not (Q (c - k + m)))
              → Near (packed_entry l (c - k + m) (c - suc k) *ᶠ get_or x m nan) (packed_entry l (c - k + m) (c - suc k) *ᶠ get_or x' m nan)
          term m t (inl u) = near_scale (packed_entry l (c - k + m) (c - suc k)) (get_or x m nan) (get_or x' m nan) (ih m t u)
          term m t (inr u) =
              near_lost (packed_entry l (c - k + m) (c - suc k)) (get_or x m nan) (get_or x' m nan)
              (P (c - k + m) (c - suc k) (below c k m g) (in_range c k m g t) (differ_back (Q (c - suc k)) (Q (c - k + m)) q u))

  pub solve_near : (b b' : List Float) → ((i : ℕ) → i < c → T (Q i) → Near (get_or b i nan) (get_or b' i nan))
      → (i : ℕ) → i < c → T (Q i) → Near (get_or (packed_solve c l b) i nan) (get_or (packed_solve c l b') i nan)
  unfolding packed_solve
  solve_near b b' B = backward_near (packed_forward l b c) (packed_forward l b' c) (forward_near b b' B)

  -- a right side that vanishes on Q has a solution that vanishes on Q
  forward_vanish : (b : List Float) → ((i : ℕ) → i < c → T (Q i) → Vanishing (get_or b i nan)) → (i : ℕ) → i < c → T (Q i) → Vanishing (get_or (packed_forward l b c) i nan)
  unfolding packed_forward row_at
  forward_vanish b B i h =
      grown_all (λ j x x'. T (Q j) → Vanishing x) (packed_forward l b) (packed_forward l b) (row_at l b) (row_at l b) refl refl (λ j. refl) (λ j. refl) c step c (le_refl c) i h
    where
      step : (j : ℕ) → j < c → (y y' : List Float) → ((k : ℕ) → k < j → T (Q k) → Vanishing (get_or y k nan)) → T (Q j) → Vanishing (row_at l b j y)
      step j g y y' ih q =
          vanish_div _ (packed_entry l j j) (vanish_sub (get_or b j nan) _ (B j g q)
          (vanish_summed (each_tab (λ k. packed_entry l j k *ᶠ get_or y k nan) j (λ k t. term k t (split (Q k))))))
        where
          term : (k : ℕ) → k < j → T (Q k) ⊎ T (not (Q k)) → Vanishing (packed_entry l j k *ᶠ get_or y k nan)
          term k t (inl u) = vanish_mul_r (packed_entry l j k) (get_or y k nan) (ih k t u)
          term k t (inr u) = vanish_mul_l (packed_entry l j k) (get_or y k nan) (P j k t g (differ (Q j) (Q k) q u))

  backward_vanish : (y : List Float) → ((i : ℕ) → i < c → T (Q i) → Vanishing (get_or y i nan)) → (i : ℕ) → i < c → T (Q i) → Vanishing (get_or (packed_backward l c y c) i nan)
  unfolding packed_backward row_back
  backward_vanish y B =
      stacked_all (λ j x x'. T (Q j) → Vanishing x) (packed_backward l c y) (packed_backward l c y) (row_back l c y) (row_back l c y) (λ k. refl) (λ k. refl) c step
    where
      step : (k : ℕ) → k < c → (x x' : List Float) → ((m : ℕ) → m < k → T (Q (c - k + m)) → Vanishing (get_or x m nan)) → T (Q (c - suc k)) → Vanishing (row_back l c y k x)
      step k g x x' ih q =
          let i = c - suc k in
          vanish_div _ (packed_entry l i i) (vanish_sub (get_or y i nan) _ (B i (in_place c k g) q)
          (vanish_summed (each_tab (λ m. packed_entry l (suc i + m) i *ᶠ get_or x m nan) k
          (λ m t. subst (λ (j : ℕ). Vanishing (packed_entry l j i *ᶠ get_or x m nan)) (sym (after c k m g)) (term m t (split (Q (c - k + m))))))))
        where
          term : (m : ℕ) → m < k → T (Q (c - k + m)) ⊎ T (not (Q (c - k + m))) → Vanishing (packed_entry l (c - k + m) (c - suc k) *ᶠ get_or x m nan)
          term m t (inl u) = vanish_mul_r (packed_entry l (c - k + m) (c - suc k)) (get_or x m nan) (ih m t u)
          term m t (inr u) =
              vanish_mul_l (packed_entry l (c - k + m) (c - suc k)) (get_or x m nan)
              (P (c - k + m) (c - suc k) (below c k m g) (in_range c k m g t) (differ_back (Q (c - suc k)) (Q (c - k + m)) q u))

  solve_vanish : (b : List Float) → ((i : ℕ) → i < c → T (Q i) → Vanishing (get_or b i nan)) → (i : ℕ) → i < c → T (Q i) → Vanishing (get_or (packed_solve c l b) i nan)
  unfolding packed_solve
  solve_vanish b B = backward_vanish (packed_forward l b c) (forward_vanish b B)

-- ---- averages

pub averaged_vanish : (m : ℕ → ℕ → Float) (i j : ℕ) → Vanishing (m i j) → Vanishing (m j i) → T (not (eqb i j)) → Vanishing (averaged m i j)
unfolding averaged
averaged_vanish m i j p q n = go (eqb i j) n (lib.Dec.ltb j i)
  where
    go : (e : Bool) → T (not e) → (b : Bool) → Vanishing (elim e [ true ↦ m i i | false ↦ elim b [ true ↦ half *ᶠ (m i j +ᶠ m j i) | false ↦ half *ᶠ (m j i +ᶠ m i j) ] ])
    go true n b = absurd n
    go false n true = vanish_mul_r half (m i j +ᶠ m j i) (vanish_add (m i j) (m j i) p q)
    go false n false = vanish_mul_r half (m j i +ᶠ m i j) (vanish_add (m j i) (m i j) q p)

-- ---- the inverse

unlike_ne : (Q : ℕ → Bool) (i j : ℕ) → T (unlike (Q i) (Q j)) → T (not (eqb i j))
unlike_ne Q i j u = go (eqb i j) (λ t. no (Q i) (Q j) (ap Q (eqb→eq i j t)) u)
  where
    no : (p q : Bool) → p ≡ q → T (unlike p q) → ⊥
    no p q e v = same p (subst (λ (x : Bool). T (unlike p x)) (sym e) v)
      where
        same : (p : Bool) → T (unlike p p) → ⊥
        same true v = v
        same false v = v

    go : (b : Bool) → (T b → ⊥) → T (not b)
    go true f = absurd (f tt)
    go false f = tt

pub unlike_sym : (p q : Bool) → T (unlike p q) → T (unlike q p)
unlike_sym true true u = u
unlike_sym true false u = u
unlike_sym false true u = u
unlike_sym false false u = u

unlike_both : (p q s : Bool) → T (unlike (unlike p s) (unlike q s)) → T (unlike p q)
unlike_both true true true u = u
unlike_both true true false u = u
unlike_both true false true u = tt
unlike_both true false false u = tt
unlike_both false true true u = tt
unlike_both false true false u = tt
unlike_both false false true u = u
unlike_both false false false u = u

module _ (c : ℕ) (l : List Float) (Q : ℕ → Bool) (P : Parted c (packed_entry l) Q) where
  -- the row of a unit vector has nothing on the other side
  unit_vanish : (s j : ℕ) → j < c → T (unlike (Q j) (Q s)) → Vanishing (get_or (packed_solve c l (unit c s)) j nan)
  unfolding unit
  unit_vanish s =
      solve_vanish c l (λ k. unlike (Q k) (Q s)) (λ i k a b u. P i k a b (unlike_both (Q i) (Q k) (Q s) u)) (unit c s)
      (λ i h u. subst Vanishing (sym (get_d_tab (λ j. cond (eqb j s) oneᶠ zeroᶠ) c i nan h)) (off (eqb i s) (unlike_ne Q i s u)))
    where
      off : (b : Bool) → T (not b) → Vanishing (cond b oneᶠ zeroᶠ)
      off true n = absurd n
      off false n = vanish_zero zeroᶠ zero_zero

  row_length : (s : ℕ) → length (packed_solve c l (unit c s)) ≡ c
  unfolding packed_solve packed_backward row_back
  row_length s =
      let y = packed_forward l (unit c s) c in
      stacked_length (packed_backward l c y) (row_back l c y) refl (λ k. refl) c

  entry_vanish : (i j : ℕ) → i < c → j < c → T (unlike (Q i) (Q j)) → Vanishing (entry_in (flat_map (λ s. packed_solve c l (unit c s)) (up_to c)) c i j)
  unfolding up_to
  entry_vanish i j h g u =
      subst Vanishing (sym (get_d_rows (λ s. packed_solve c l (unit c s)) c (λ k. k) c i j nan (λ k t. row_length k) h g))
      (unit_vanish i j g (unlike_sym (Q i) (Q j) u))

  -- the inverse has no entry between Q and the rest
  pub inverse_vanish : (i j : ℕ) → i < c → j < c → T (unlike (Q i) (Q j)) → Vanishing (entry_in (inverse_of c l) c i j)
  unfolding inverse_of averaged_square
  inverse_vanish i j h g u =
      let m = flat_map (λ s. packed_solve c l (unit c s)) (up_to c) in
      subst Vanishing (sym (get_d_square c (averaged (entry_in m c)) i j nan h g))
      (averaged_vanish (entry_in m c) i j (entry_vanish i j h g u) (entry_vanish j i g h (unlike_sym (Q i) (Q j) u)) (unlike_ne Q i j u))

  -- ---- the solve with what is stored, by either policy

  pub coarse_near : (policy : TwoLevelCoarseApplyPolicy) (b b' : List Float) → ((i : ℕ) → i < c → T (Q i) → Near (get_or b i nan) (get_or b' i nan))
      → (i : ℕ) → i < c → T (Q i) → Near (get_or (coarse_solve policy c (coarse_part policy c l) b) i nan) (get_or (coarse_solve policy c (coarse_part policy c l) b') i nan)
  unfolding coarse_solve coarse_part
  coarse_near Auto b b' B i h q = solve_near c l Q P b b' B i h q
  coarse_near FactorSolve b b' B i h q = solve_near c l Q P b b' B i h q
  coarse_near ExplicitInverse b b' B i h q =
      let m = inverse_of c l in
      subst (λ (x : Float). Near x (get_or (coarse_solve ExplicitInverse c m b') i nan)) (sym (get_d_tab (λ k. summed (tab (λ j. entry_in m c k j *ᶠ get_or b j nan) c)) c i nan h))
      (subst (λ (x : Float). Near (summed (tab (λ j. entry_in m c i j *ᶠ get_or b j nan) c)) x) (sym (get_d_tab (λ k. summed (tab (λ j. entry_in m c k j *ᶠ get_or b' j nan) c)) c i nan h))
      (near_summed (nears_tab (λ j. entry_in m c i j *ᶠ get_or b j nan) (λ j. entry_in m c i j *ᶠ get_or b' j nan) c (λ j g. term j g (split (Q j))))))
    where
      term : (j : ℕ) → j < c → T (Q j) ⊎ T (not (Q j)) → Near (entry_in (inverse_of c l) c i j *ᶠ get_or b j nan) (entry_in (inverse_of c l) c i j *ᶠ get_or b' j nan)
      term j g (inl u) = near_scale (entry_in (inverse_of c l) c i j) (get_or b j nan) (get_or b' j nan) (B j g u)
      term j g (inr u) = near_lost (entry_in (inverse_of c l) c i j) (get_or b j nan) (get_or b' j nan) (inverse_vanish i j h g (differ (Q i) (Q j) q u))

-- ---- one block, which lies in one node: right sides that are near give solutions that are near

block_at : List Float → ℕ → List Float → ℕ → List Float → Float
block_at l w r i y = reduced (get_or r i nan) (tab (λ k. lower l w i k *ᶠ get_or y k nan) i) /ᶠ lower l w i i

block_back : List Float → ℕ → List Float → ℕ → List Float → Float
block_back l w y k z = reduced (get_or y (w - suc k) nan) (tab (λ m. lower l w (suc (w - suc k) + m) (w - suc k) *ᶠ get_or z m nan) k) /ᶠ lower l w (w - suc k) (w - suc k)

pub block_length : (l : List Float) (w : ℕ) (r : List Float) → length (block_solve l w r) ≡ w
unfolding block_solve backward block_back
block_length l w r = let y = forward l w r w in stacked_length (backward l w y) (block_back l w y) refl (λ k. refl) w

pub block_near : (l : List Float) (w : ℕ) (r r' : List Float) → ((i : ℕ) → i < w → Near (get_or r i nan) (get_or r' i nan))
    → (i : ℕ) → i < w → Near (get_or (block_solve l w r) i nan) (get_or (block_solve l w r') i nan)
unfolding block_solve forward backward block_at block_back
block_near l w r r' B =
    stacked_all (λ j x x'. Near x x') (backward l w (forward l w r w)) (backward l w (forward l w r' w)) (block_back l w (forward l w r w)) (block_back l w (forward l w r' w)) (λ k. refl) (λ k. refl) w back
  where
    step : (j : ℕ) → j < w → (y y' : List Float) → ((k : ℕ) → k < j → Near (get_or y k nan) (get_or y' k nan)) → Near (block_at l w r j y) (block_at l w r' j y')
    step j g y y' ih =
        near_div _ _ (lower l w j j) (near_reduced (B j g)
        (nears_tab (λ k. lower l w j k *ᶠ get_or y k nan) (λ k. lower l w j k *ᶠ get_or y' k nan) j (λ k t. near_scale (lower l w j k) (get_or y k nan) (get_or y' k nan) (ih k t))))

    mid : (i : ℕ) → i < w → Near (get_or (forward l w r w) i nan) (get_or (forward l w r' w) i nan)
    mid i h = grown_all (λ j x x'. Near x x') (forward l w r) (forward l w r') (block_at l w r) (block_at l w r') refl refl (λ j. refl) (λ j. refl) w step w (le_refl w) i h

    back : (k : ℕ) → k < w → (x x' : List Float) → ((m : ℕ) → m < k → Near (get_or x m nan) (get_or x' m nan))
        → Near (block_back l w (forward l w r w) k x) (block_back l w (forward l w r' w) k x')
    back k g x x' ih =
        let i = w - suc k in
        near_div _ _ (lower l w i i) (near_reduced (mid i (in_place w k g))
        (nears_tab (λ m. lower l w (suc i + m) i *ᶠ get_or x m nan) (λ m. lower l w (suc i + m) i *ᶠ get_or x' m nan) k
        (λ m t. near_scale (lower l w (suc i + m) i) (get_or x m nan) (get_or x' m nan) (ih m t))))
