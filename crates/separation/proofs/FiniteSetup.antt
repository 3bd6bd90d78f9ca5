-- The factors of an accepted setup are finite with a diagonal above zero: every block's, and the coarse one. So among its stored numbers only the transfer's weights and an
-- explicit inverse can be NaN or infinite. The coarse matrix is of sums, so that its diagonal holds f64s, which is all that the law on factors asks.
use mathlib.Core.Path.{◌≡◌, refl, sym, ap, ◌∙◌, subst}
use mathlib.Core.Bool.{Bool, true, false}
use mathlib.Core.List.{List, [], ◌++◌}
use Prim.Native.Nat.{ℕ, ◌<◌}
use lib.Dec.{T, ltb, eqb, eqb_refl}
use lib.Ieee.{Float, nan, binary64, fits}
use Rattle.definitions.specs.Numbers.{◌+ᶠ◌, ◌*ᶠ◌, half}
use Rattle.definitions.specs.Refusal.{done}
use Rattle.definitions.specs.Matrix.{Matrix}
use Rattle.definitions.specs.Block.{in_block, block_part}
use Rattle.definitions.specs.Coarse.{packed, averaged, averaged_square, entry_in, coarse_part}
use Rattle.definitions.specs.Places.{node_count, Lengths, factors_in, coarse_in}
use Rattle.definitions.specs.Setup.{coarse_entry, coarse_matrix, Built, built_from, setup_of}
use Rattle.definitions.specs.declared.Options.{Options}
use Rattle.definitions.specs.declared.Setup.{Setup}
use Rattle.definitions.specs.declared.TwoLevelCoarseApplyPolicy.TheVariants.{FactorSolve}
use Rattle.laws.proofs.Lists.{get_d_square}
use Rattle.laws.proofs.FiniteFactor.{FiniteFactor}
use Rattle.laws.proofs.FiniteFactors.{factors_finite, coarse_finite}
use Rattle.laws.proofs.Record.{entry_fits}
use Rattle.separation.proofs.Stages.{Stages, dimension, coarse_averaged, built, sound, stages_of}
use Rattle.laws.proofs.SetupLists.{blocks_are_nodes, width_is_size}
use Rattle.separation.proofs.Places.{factors_read, coarse_read}

-- of a record and a list that goes on behind what it uses
pub record FiniteSetup (s : Setup) (floats : List Float) : Type 0 where
  pub blocks : (k : ℕ) → k < s.nodes → FiniteFactor (in_block s.block) s.block (block_part s.block s.block k (factors_in s floats))
  pub coarse : s.policy ≡ FactorSolve → FiniteFactor packed s.coarse (coarse_in s floats)

-- ---- the coarse matrix

average_own : (a : ℕ → ℕ → Float) (i : ℕ) → averaged a i i ≡ a i i
unfolding averaged
average_own a i = go (eqb i i) (eqb_refl i)
  where
    go : (b : Bool) → T b → ◌≡◌ {A = Float} (elim b [ true ↦ a i i | false ↦ elim (ltb i i) [ true ↦ half *ᶠ (a i i +ᶠ a i i) | false ↦ half *ᶠ (a i i +ᶠ a i i) ] ]) (a i i)
    go true h = refl
    go false h = absurd h

module _ {a : Matrix} {o : Options} (s : Stages a o) where
  diagonal_fits : (i : ℕ) → i < dimension s → T (fits binary64 (entry_in (coarse_averaged s) (dimension s) i i))
  unfolding averaged_square coarse_matrix
  diagonal_fits i h =
      let c = dimension s in
      let m = coarse_matrix a o s.groups s.transfer in
      subst (λ (x : Float). T (fits binary64 x))
      (sym (get_d_square c (averaged (entry_in m c)) i i nan h h ∙ average_own (entry_in m c) i ∙ get_d_square c (coarse_entry o.basis a o.block s.groups.ids s.transfer.weights) i i nan h h))
      (entry_fits o.basis a o.block s.groups.ids s.transfer.weights i i)

  -- whatever is stored of it
  pub coarse_factor_finite : FiniteFactor packed (dimension s) s.factor
  coarse_factor_finite = coarse_finite (dimension s) (coarse_averaged s) s.factor diagonal_fits s.coarse

  pub block_factors_finite : (k : ℕ) → k < node_count a o → FiniteFactor (in_block o.block) o.block (block_part o.block o.block k s.factors)
  block_factors_finite k h =
      let z = sound s in
      subst (λ (w : ℕ). FiniteFactor (in_block w) w (block_part o.block w k s.factors)) (width_is_size a.rows o.block k z.whole h)
      (factors_finite a o.block s.factors z.block_some s.factored k (subst (λ (n : ℕ). k < n) (sym (blocks_are_nodes a.rows o.block z.block_some z.whole)) h))

  stored_finite : (rest : List Float) → FiniteSetup (built s).setup ((built s).floats ++ rest)
  unfolding built_from coarse_part
  stored_finite rest = record {
    blocks = λ k h. subst (λ (x : List Float). FiniteFactor (in_block o.block) o.block (block_part o.block o.block k x)) (sym (factors_read s [] rest)) (block_factors_finite k h);
    coarse = λ e. subst (λ (x : List Float). FiniteFactor packed (dimension s) x) (sym (coarse_read s [] rest ∙ ap (λ p. coarse_part p (dimension s) s.factor) e)) coarse_factor_finite;
  }

-- THE THEOREM: the stored factors of an accepted setup
pub setup_finite : (a : Matrix) (o : Options) (room : Lengths) (b : Built) → setup_of a o room ≡ done b → (rest : List Float) → FiniteSetup b.setup (b.floats ++ rest)
setup_finite a o room b e rest =
    let s = stages_of a o room b e in
    subst (λ (x : Built). FiniteSetup x.setup (x.floats ++ rest)) (sym s.is) (stored_finite s.stages rest)
