-- Instances of demand 3 that meet every premise and the conclusion, computed: block size 2, both graph policies, both bases, both coarse solves, and a part beside nodes that
-- are linked. A list of formed numbers that read beside its lists would hold a NaN, so that no run met the premises: these instances would then fail.
use Prim.Native.Nat.{ℕ}
use mathlib.Core.Path.{◌≡◌, refl}
use mathlib.Core.Bool.{Bool, false, not, ◌&&◌, ◌||◌}
use mathlib.Core.List.{List, [], ◌∷◌, map}
use lib.Dec.{T, eqb}
use lib.Ieee.{Float, neg}
use lib.Ieee.Fits.{and_l}
use Rattle.definitions.specs.Numbers.{ofℕ}
use Rattle.definitions.specs.Refusal.{Outcome, refused, done, ◌>>=◌}
use Rattle.definitions.specs.Matrix.{Matrix}
use Rattle.definitions.specs.Setup.{Built, setup_of, grouping_of}
use Rattle.definitions.specs.Apply.{applied, corrected, ample}
use Rattle.definitions.specs.Formed.{formed, all_finite}
use Rattle.definitions.specs.Separation.{Apart, agree, agreeing, is_done}
use Rattle.definitions.proofs.Opened.{all_open}
use Rattle.definitions.specs.declared.Options.{Options}
use Rattle.definitions.specs.declared.TwoLevelAggregation.TheVariants.{Graph, StrongGraph}
use Rattle.definitions.specs.declared.TwoLevelBasis.TheVariants.{PiecewiseConstant, JacobiSmoothed}
use Rattle.definitions.specs.declared.TwoLevelCoarseApplyPolicy.TheVariants.{FactorSolve, ExplicitInverse}

pub record Instance : Type 0 where
  pub matrix : Matrix
  pub options : Options
  pub part : ℕ → Bool
  pub load : List Float
  pub load' : List Float

abbrev pub Premises : Instance → Type 0
Premises x = Apart x.matrix x.options x.part x.load x.load'

-- the setup is accepted, and the two corrections agree on the part
abbrev pub Conclusion : Instance → Type 0
Conclusion x =
    T (is_done (setup_of x.matrix x.options ample))
    × T (agreeing x.part x.options.block x.matrix.rows (corrected x.matrix x.options x.load) (corrected x.matrix x.options x.load'))

abbrev pub Met : Instance → Type 0
Met x = Premises x × Conclusion x

-- ---- the instances: nodes of two rows each, and loads that differ in every row of the rest

abbrev whole : List ℕ → List Float
whole ns = map (λ n. ofℕ n) ns

abbrev minus : ℕ → Float
minus n = neg (ofℕ n)

-- nodes 0 and 2 are linked, and so are 1 and 3; each is a group of its own, so that smoothing reaches from one into another. On row 1 of the part the loads are +0 and -0
abbrev pub pairs : Instance
pairs = record {
  matrix = record {
    rows = 8;
    cols = 8;
    row_ptr = 0 ∷ 2 ∷ 5 ∷ 7 ∷ 10 ∷ 12 ∷ 13 ∷ 14 ∷ 16 ∷ [];
    col_idx = 0 ∷ 1 ∷ 0 ∷ 1 ∷ 4 ∷ 2 ∷ 3 ∷ 2 ∷ 3 ∷ 7 ∷ 1 ∷ 4 ∷ 5 ∷ 6 ∷ 3 ∷ 7 ∷ [];
    values = ofℕ 8 ∷ ofℕ 1 ∷ ofℕ 1 ∷ ofℕ 9 ∷ minus 2 ∷ ofℕ 9 ∷ minus 2 ∷ minus 2 ∷ ofℕ 6 ∷ minus 1 ∷ minus 2 ∷ ofℕ 5 ∷ ofℕ 7 ∷ ofℕ 4 ∷ minus 1 ∷ ofℕ 6 ∷ [];
  };
  options = record { block = 2; group = 1; aggregation = Graph; basis = JacobiSmoothed; policy = FactorSolve };
  part = λ v. eqb v 0 || eqb v 2;
  load = whole (1 ∷ 0 ∷ 3 ∷ 4 ∷ 5 ∷ 6 ∷ 7 ∷ 8 ∷ []);
  load' = ofℕ 1 ∷ minus 0 ∷ minus 30 ∷ whole (0 ∷ 5 ∷ 6 ∷ 70 ∷ 9 ∷ []);
}

-- node 0 is linked with 2 and, more strongly, with 3; the part is node 1
abbrev pub star : Instance
star = record {
  matrix = record {
    rows = 8;
    cols = 8;
    row_ptr = 0 ∷ 3 ∷ 6 ∷ 8 ∷ 10 ∷ 12 ∷ 13 ∷ 15 ∷ 16 ∷ [];
    col_idx = 0 ∷ 1 ∷ 6 ∷ 0 ∷ 1 ∷ 4 ∷ 2 ∷ 3 ∷ 2 ∷ 3 ∷ 1 ∷ 4 ∷ 5 ∷ 0 ∷ 6 ∷ 7 ∷ [];
    values = ofℕ 16 ∷ ofℕ 1 ∷ minus 4 ∷ ofℕ 1 ∷ ofℕ 9 ∷ minus 1 ∷ ofℕ 9 ∷ minus 2 ∷ minus 2 ∷ ofℕ 6 ∷ minus 1 ∷ ofℕ 5 ∷ ofℕ 7 ∷ minus 4 ∷ ofℕ 12 ∷ ofℕ 6 ∷ [];
  };
  options = record { block = 2; group = 2; aggregation = StrongGraph; basis = PiecewiseConstant; policy = ExplicitInverse };
  part = λ v. eqb v 1;
  load = whole (1 ∷ 2 ∷ 3 ∷ 4 ∷ 5 ∷ 6 ∷ 7 ∷ 8 ∷ []);
  load' = whole (10 ∷ 20 ∷ 3 ∷ 4 ∷ 50 ∷ 60 ∷ 70 ∷ 80 ∷ []);
}

-- ---- what is computed, a run at a time

abbrev Runs : Instance → List Float → Type 0
Runs x r = T (all_finite (formed x.matrix x.options r))

pairs_runs : Runs pairs pairs.load
unfolding all_open
pairs_runs = tt

pairs_runs' : Runs pairs pairs.load'
unfolding all_open
pairs_runs' = tt

star_runs : Runs star star.load
unfolding all_open
star_runs = tt

star_runs' : Runs star star.load'
unfolding all_open
star_runs' = tt

-- after one setup the part keeps its figures, and the rest does not
module _ (x : Instance) where
  abbrev after : Built → List Float → List Float
  after b r = applied b.setup b.ints b.floats r

  abbrev equal_on : (ℕ → Bool) → Built → Bool
  equal_on nodes b = agree nodes x.options.block x.matrix.rows (after b x.load) (after b x.load')

  abbrev keeps : Outcome Built → Bool
  keeps (refused c) = false
  keeps (done b) = equal_on x.part b && not (equal_on (λ v. not (x.part v)) b)

  kept_after : (s : Outcome Built) → T (keeps s)
      → T (is_done s) × T (agreeing x.part x.options.block x.matrix.rows (s >>= (λ b. done (after b x.load))) (s >>= (λ b. done (after b x.load'))))
  unfolding is_done agreeing ◌>>=◌
  kept_after (refused c) t = absurd t
  kept_after (done b) t = (tt, and_l (equal_on x.part b) (not (equal_on (λ v. not (x.part v)) b)) t)

  kept : T (keeps (setup_of x.matrix x.options ample)) → Conclusion x
  unfolding corrected
  kept t = kept_after (setup_of x.matrix x.options ample) t

pairs_kept : T (keeps pairs (setup_of pairs.matrix pairs.options ample))
unfolding all_open
pairs_kept = tt

star_kept : T (keeps star (setup_of star.matrix star.options ample))
unfolding all_open
star_kept = tt

-- THE THEOREM for both of them
pub instances_hold : Met pairs × Met star
unfolding all_open
instances_hold = (
  (record { graph = tt; unlinked = tt; same = tt; finite_residuals = tt; formed_finite = pairs_runs; formed_finite' = pairs_runs'; long = refl; long' = refl; are_f64 = tt }, kept pairs pairs_kept),
  (record { graph = tt; unlinked = tt; same = tt; finite_residuals = tt; formed_finite = star_runs; formed_finite' = star_runs'; long = refl; long' = refl; are_f64 = tt }, kept star star_kept),
)

-- the strengths decide the groups of `star`: without them node 0 would go with node 2
pub strengths_decide :
    (grouping_of StrongGraph star.matrix star.options ≡ done (record { ids = 0 ∷ 1 ∷ 2 ∷ 0 ∷ []; count = 3 }))
    × (grouping_of Graph star.matrix star.options ≡ done (record { ids = 0 ∷ 1 ∷ 0 ∷ 2 ∷ []; count = 3 }))
unfolding all_open
strengths_decide = (refl, refl)
