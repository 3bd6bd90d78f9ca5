-- A record's numbers read back as the record, whatever stands behind them, and are a record; what an accepted setup hands out is one that does: its two floats are results of
-- operations, or zero.
use mathlib.Core.Path.{◌≡◌, refl}
use mathlib.Core.Bool.{Bool, true, false, ◌&&◌}
use mathlib.Core.List.{List, [], ◌∷◌, ◌++◌, foldl}
use Prim.Native.Nat.{ℕ, ◌+◌, ◌*◌}
use native.Mathlib.Omega.{arith}
use lib.Dec.{T, leb, ltb, eqb, le→leb}
use lib.ListN.{length, get_or}
use lib.Ieee.{Float, nan, binary64, fits, lt, neg}
use lib.Ieee.Fits.{and_i, cond-fits, nan-fits, neg-fits, mul-fits, div-fits}
use lib.Ieee.Bits.{of_bits-to_bits, of_bits-fits}
use Rattle.definitions.specs.Numbers.{◌*ᶠ◌, ◌+ᶠ◌, threeᶠ, fourᶠ, half, zeroᶠ, magnitude, larger, largest}
use Rattle.definitions.specs.Refusal.{Outcome, refused, done, require, ◌>>=◌}
use Rattle.definitions.specs.Matrix.{Matrix, Entry}
use Rattle.definitions.specs.Block.{factors_of}
use Rattle.definitions.specs.Diagonal.{diagonal_of}
use Rattle.definitions.specs.Groups.{Grouping}
use Rattle.definitions.specs.Estimate.{usable_from, normalised, start_of, rounds, inverse_roots, rho_of, damping_of, estimate_of}
use Rattle.definitions.specs.Transfer.{coarse_column}
use Rattle.definitions.specs.Coarse.{constant_entry, constant_terms, galerkin_entry, galerkin_terms, averaged, averaged_square, entry_in, coarse_factor}
use Rattle.definitions.specs.Places.{Lengths, entry_needs, coarse_needs, covers}
use Rattle.definitions.specs.Setup.{front_of, grouping_of, max_coarse, Transfer, transfer_for, coarse_entry, coarse_matrix, Built, built_from, setup_of}
use Rattle.definitions.specs.Record.{aggregation_number, basis_number, policy_number, are_policies, aggregation_of, basis_of, policy_of, record_numbers, record_of, is_record}
use Rattle.definitions.specs.declared.Setup.{Setup}
use Rattle.definitions.specs.declared.Options.{Options}
use Rattle.definitions.specs.declared.Refusal.{Refusal}
use Rattle.definitions.specs.declared.Refusal.TheVariants.{ListTooShort, CoarseTooLarge, CoarseListTooShort, EstimateFailed}
use Rattle.definitions.specs.declared.TwoLevelAggregation.{TwoLevelAggregation}
use Rattle.definitions.specs.declared.TwoLevelAggregation.TheVariants.{Contiguous, Graph, StrongGraph}
use Rattle.definitions.specs.declared.TwoLevelBasis.{TwoLevelBasis}
use Rattle.definitions.specs.declared.TwoLevelBasis.TheVariants.{PiecewiseConstant, JacobiSmoothed}
use Rattle.definitions.specs.declared.TwoLevelCoarseApplyPolicy.{TwoLevelCoarseApplyPolicy}
use Rattle.definitions.specs.declared.TwoLevelCoarseApplyPolicy.TheVariants.{Auto, FactorSolve, ExplicitInverse}
use Rattle.laws.proofs.Lists.{Each, none, more, each_read, each_square}
use Rattle.laws.proofs.FiniteFactor.{total_fits}

-- ---- to numbers and back

aggregation_back : (g : TwoLevelAggregation) → aggregation_of (aggregation_number g) ≡ g
unfolding aggregation_of aggregation_number
aggregation_back Contiguous = refl
aggregation_back Graph = refl
aggregation_back StrongGraph = refl

basis_back : (b : TwoLevelBasis) → basis_of (basis_number b) ≡ b
unfolding basis_of basis_number
basis_back PiecewiseConstant = refl
basis_back JacobiSmoothed = refl

policy_back : (p : TwoLevelCoarseApplyPolicy) → policy_of (policy_number p) ≡ p
unfolding policy_of policy_number
policy_back Auto = refl
policy_back FactorSolve = refl
policy_back ExplicitInverse = refl

pub aggregation_small : (g : TwoLevelAggregation) → T (leb (aggregation_number g) 2)
unfolding aggregation_number
aggregation_small Contiguous = tt
aggregation_small Graph = tt
aggregation_small StrongGraph = tt

pub basis_small : (b : TwoLevelBasis) → T (leb (basis_number b) 1)
unfolding basis_number
basis_small PiecewiseConstant = tt
basis_small JacobiSmoothed = tt

pub policy_small : (p : TwoLevelCoarseApplyPolicy) → T (leb (policy_number p) 2)
unfolding policy_number
policy_small Auto = tt
policy_small FactorSolve = tt
policy_small ExplicitInverse = tt

policies : (g : TwoLevelAggregation) (b : TwoLevelBasis) (p : TwoLevelCoarseApplyPolicy) → T (are_policies (aggregation_number g) (basis_number b) (policy_number p))
unfolding are_policies
policies g b p =
    let x = leb (aggregation_number g) 2 in
    let y = leb (basis_number b) 1 in
    and_i (x && y) (leb (policy_number p) 2) (and_i x y (aggregation_small g) (basis_small b)) (policy_small p)

-- its two floats are values of the format, as the two f64 of a struct are
pub record HoldsF64s (s : Setup) : Type 0 where
  pub damping : T (fits binary64 s.damping)
  pub scale : T (fits binary64 s.scale)

module _ (s : Setup) (behind : List ℕ) where
  pub record_behind : HoldsF64s s → record_of (record_numbers s ++ behind) ≡ s
  unfolding record_of record_numbers
  record_behind h = rw (aggregation_back s.aggregation, basis_back s.basis, policy_back s.policy, of_bits-to_bits binary64 s.damping h.damping, of_bits-to_bits binary64 s.scale h.scale)

  pub is_record_behind : T (is_record (record_numbers s ++ behind))
  unfolding is_record record_numbers
  is_record_behind =
      let n = length (record_numbers s ++ behind) in
      and_i (leb 15 n) (are_policies (aggregation_number s.aggregation) (basis_number s.basis) (policy_number s.policy))
      (le→leb 15 n (omega arith)) (policies s.aggregation s.basis s.policy)

pub record_back : (s : Setup) → HoldsF64s s → record_of (record_numbers s) ≡ s
unfolding record_of record_numbers
record_back s h = rw (aggregation_back s.aggregation, basis_back s.basis, policy_back s.policy, of_bits-to_bits binary64 s.damping h.damping, of_bits-to_bits binary64 s.scale h.scale)

pub is_record_lem : (s : Setup) → T (is_record (record_numbers s))
unfolding record_numbers
is_record_lem s = is_record_behind s []

-- ---- what setup hands out

largest_fits : (xs : List Float) → Each (λ x. T (fits binary64 x)) xs → T (fits binary64 (largest xs))
unfolding largest larger magnitude
largest_fits xs e = go xs zeroᶠ (of_bits-fits binary64 0) e
  where
    go : (xs : List Float) (s : Float) → T (fits binary64 s) → Each (λ x. T (fits binary64 x)) xs → T (fits binary64 (foldl (λ s x. larger s (magnitude x)) s xs))
    go [] s p none = p
    go (x ∷ xs) s p (more q e) = go xs (larger s (magnitude x)) (cond-fits binary64 (lt s (magnitude x)) (magnitude x) s (cond-fits binary64 (lt x zeroᶠ) (neg x) x (neg-fits binary64 x q) q) p) e

averaged_fits : (a : ℕ → ℕ → Float) → ((i : ℕ) → T (fits binary64 (a i i))) → (i j : ℕ) → T (fits binary64 (averaged a i j))
unfolding averaged
averaged_fits a own i j = go (eqb i j) (ltb j i)
  where
    go : (b c : Bool) → T (fits binary64 (elim b [ true ↦ a i i | false ↦ elim c [ true ↦ half *ᶠ (a i j +ᶠ a j i) | false ↦ half *ᶠ (a j i +ᶠ a i j) ] ]))
    go true c = own i
    go false true = mul-fits binary64 half (a i j +ᶠ a j i)
    go false false = mul-fits binary64 half (a j i +ᶠ a i j)

-- the averages of any matrix of f64s, and the coarse matrix's, whose entries are sums
pub averages_fit : (n : ℕ) (m : List Float) → Each (λ x. T (fits binary64 x)) m → Each (λ x. T (fits binary64 x)) (averaged_square n m)
unfolding averaged_square
averages_fit n m e = each_square n (averaged (entry_in m n)) (λ i j. averaged_fits (entry_in m n) (λ k. each_read m (k * n + k) nan e (nan-fits binary64)) i j)

pub entry_fits : (basis : TwoLevelBasis) (a : Matrix) (size : ℕ) (ids : List ℕ) (weights : List (List Entry)) (i j : ℕ) → T (fits binary64 (coarse_entry basis a size ids weights i j))
unfolding coarse_entry constant_entry galerkin_entry
entry_fits PiecewiseConstant a size ids weights i j = total_fits (constant_terms a (coarse_column size ids) i j)
entry_fits JacobiSmoothed a size ids weights i j = total_fits (galerkin_terms a (λ r. get_or weights r []) i j)

pub matrix_fits_lem : (a : Matrix) (o : Options) (g : Grouping) (t : Transfer) → Each (λ x. T (fits binary64 x)) (coarse_matrix a o g t)
unfolding coarse_matrix
matrix_fits_lem a o g t = each_square (g.count * o.block) (coarse_entry o.basis a o.block g.ids t.weights) (entry_fits o.basis a o.block g.ids t.weights)

-- what is accepted has the property, along a chain of stages
data Yields {A : Type 0} (P : A → Type 0) : Outcome A → Type 0 where
  nothing : {r : Refusal} → Yields P (refused r)
  yielded : {x : A} → P x → Yields P (done x)

yields_bind : {A B : Type 0} {P : B → Type 0} (x : Outcome A) (f : A → Outcome B) → ((v : A) → x ≡ done v → Yields P (f v)) → Yields P (x >>= f)
unfolding ◌>>=◌
yields_bind (refused r) f k = nothing
yields_bind (done v) f k = k v refl

of_done : {A : Type 0} {P : A → Type 0} {x : A} → Yields P (done x) → P x
of_done (yielded p) = p

yields_at : {A : Type 0} {P : A → Type 0} {y : Outcome A} {x : A} → Yields P y → y ≡ done x → P x
yields_at {P = P} h e = of_done (rw e at h)

estimate_fits : (a : Matrix) (d : List Float) → Yields (λ e. T (fits binary64 e.damping)) (estimate_of a d)
unfolding estimate_of damping_of ◌>>=◌
estimate_fits a d =
    yields_bind (usable_from 0 d) _ (λ _ _.
    yields_bind (normalised 1 (start_of a.rows)) _ (λ x _.
    yields_bind (rounds a (inverse_roots d) 10 x) _ (λ y _.
    yields_bind (require _ (EstimateFailed 3)) _ (λ _ _.
    yields_bind (require _ (EstimateFailed 4)) _ (λ _ _. yielded (div-fits binary64 fourᶠ (threeᶠ *ᶠ rho_of a (inverse_roots d) y)))))))

transfer_fits_lem : (basis : TwoLevelBasis) (a : Matrix) (size : ℕ) (ids : List ℕ) (c : ℕ) → Yields (λ t. T (fits binary64 t.damping)) (transfer_for basis a size ids c)
unfolding transfer_for
transfer_fits_lem PiecewiseConstant a size ids c = yielded (of_bits-fits binary64 0)
transfer_fits_lem JacobiSmoothed a size ids c =
    yields_bind (diagonal_of a) _ (λ d _.
    yields_bind (estimate_of a d) _ (λ e h. yielded (yields_at (estimate_fits a d) h)))

-- THE RECORD OF AN ACCEPTED SETUP
pub setup_record_lem : (a : Matrix) (o : Options) (room : Lengths) (b : Built) → setup_of a o room ≡ done b → HoldsF64s b.setup
unfolding setup_of built_from ◌>>=◌
setup_record_lem a o room b e = yields_at setup_yields e
  where
    setup_yields : Yields (λ b. HoldsF64s b.setup) (setup_of a o room)
    setup_yields =
        yields_bind (front_of a o) _ (λ _ _.
        yields_bind (require (covers room (entry_needs a o)) ListTooShort) _ (λ _ _.
        yields_bind (factors_of a o.block) _ (λ factors _.
        yields_bind (grouping_of o.aggregation a o) _ (λ g _.
        let c = g.count * o.block in
        yields_bind (require (leb c max_coarse) (CoarseTooLarge c)) _ (λ _ _.
        yields_bind (require (covers room (coarse_needs c (entry_needs a o))) (CoarseListTooShort c)) _ (λ _ _.
        yields_bind (transfer_for o.basis a o.block g.ids c) _ (λ t h.
        let m = averaged_square c (coarse_matrix a o g t) in
        yields_bind (coarse_factor c m) _ (λ _ _.
        yielded (record { damping = yields_at (transfer_fits_lem o.basis a o.block g.ids c) h; scale = largest_fits m (averages_fit c (coarse_matrix a o g t) (matrix_fits_lem a o g t)) })))))))))
