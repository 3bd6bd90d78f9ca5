-- Demand 3, as a statement: under Graph and StrongGraph a change of the residual outside an unconnected part does not reach the part.
-- Two readings of one demand: of the corrected vectors that the definitions give, and of the lists that the calls hand out. Stated here, proved elsewhere.
use Rattle.std.specs.Prelude.{ℕ, ◌*◌, ◌/◌, ◌≤◌, ◌≡◌, Bool, true, false, not, ◌&&◌, ◌||◌, List, [], T, length, get_or, Float}
use Rattle.std.specs.Float.{nan, binary64}
use Rattle.std.specs.Float.Ieee.{eq, fits}
use Rattle.std.specs.Float.Ieee.Scale.{finite}
use Rattle.definitions.specs.Lists.{up_to, all}
use Rattle.definitions.specs.Refusal.{Outcome, refused, done}
use Rattle.definitions.specs.Matrix.{Matrix}
use Rattle.definitions.specs.Links.{unconnected}
use Rattle.definitions.specs.Setup.{Built, Lent, setup_of, setup_left, lengths_of}
use Rattle.definitions.specs.Apply.{corrected, apply_call, apply_left, ample}
use Rattle.definitions.specs.Formed.{formed, all_finite}
use Rattle.definitions.specs.declared.Options.{Options}
use Rattle.definitions.specs.declared.TwoLevelAggregation.{TwoLevelAggregation}
use Rattle.definitions.specs.declared.TwoLevelAggregation.TheVariants.{Contiguous, Graph, StrongGraph}

-- Two lists agree on a row if their numbers there are equal, +0 and -0 taken as equal: IEEE's `==`. They agree on the rows of a set of nodes if they do on each
unfoldable pub agree : (ℕ → Bool) → ℕ → ℕ → List Float → List Float → Bool
agree part size rows x y = all (λ i. not (part (i / size)) || eq (get_or x i nan) (get_or y i nan)) (up_to rows)

unfoldable pub follows_graph : TwoLevelAggregation → Bool
follows_graph Contiguous = false
follows_graph Graph = true
follows_graph StrongGraph = true

unfoldable pub is_done : {A : Type 0} → Outcome A → Bool
is_done (refused c) = false
is_done (done x) = true

-- every number is an f64, as the numbers of a list of f64 are
unfoldable pub f64s : List Float → Bool
f64s xs = all (λ x. fits binary64 x) xs

-- what is asked of a matrix, options, a set of nodes and two residuals, besides that the setup is accepted
pub record Apart (a : Matrix) (o : Options) (part : ℕ → Bool) (r r' : List Float) : Type 0 where
  -- Graph or StrongGraph, with any other options
  pub graph : T (follows_graph o.aggregation)
  -- no stored entry links the part with the rest
  pub unlinked : T (unconnected a o.block [] part)
  -- the residuals agree on the part's rows
  pub same : T (agree part o.block a.rows r r')
  -- both residuals, and every number that setup or either run forms, are finite
  pub finite_residuals : T (all (λ x. finite x) r && all (λ x. finite x) r')
  pub formed_finite : T (all_finite (formed a o r))
  pub formed_finite' : T (all_finite (formed a o r'))
  -- no premise of the demand, but what a residual is: one number a row, each an f64
  pub long : length r ≡ a.rows
  pub long' : length r' ≡ a.rows
  pub are_f64 : T (f64s a.values && f64s r && f64s r')

-- two results agree on the rows of a set of nodes
unfoldable pub agreeing : (ℕ → Bool) → ℕ → ℕ → Outcome (List Float) → Outcome (List Float) → Bool
agreeing part size rows (done x) (done y) = agree part size rows x y
agreeing part size rows (done x) (refused c) = false
agreeing part size rows (refused c) y = false

-- THE CORRECTED VECTORS of an accepted setup
abbrev pub Separation : Type 0
Separation = (a : Matrix) (o : Options) (part : ℕ → Bool) (r r' : List Float) → Apart a o part r r' → T (is_done (setup_of a o ample)) →
    T (agreeing part o.block a.rows (corrected a o r) (corrected a o r'))

-- what an apply hands out after an accepted setup is the corrected vector, and 26 does not come back; so the second reading follows from the first
abbrev pub HandsOutCorrected : Type 0
HandsOutCorrected = (a : Matrix) (o : Options) (lent : Lent) (b : Built) → setup_of a o (lengths_of lent) ≡ done b → (r : List Float) → length r ≡ a.rows →
    (workRoom : ℕ) → 2 * b.setup.coarse ≤ workRoom → apply_call b.setup (setup_left (done b) lent).ints (setup_left (done b) lent).floats r a.rows workRoom ≡ corrected a o r

-- THE CALLS: an accepted setup, then two accepted applies with its record and lists as it left them, whatever the lengths of the lists lent.
-- z and z' are the correction lists lent, and what is compared is what they hold afterwards
abbrev pub SeparationOfCalls : Type 0
SeparationOfCalls = (a : Matrix) (o : Options) (part : ℕ → Bool) (r r' : List Float) → Apart a o part r r' →
    (lent : Lent) (b : Built) → setup_of a o (lengths_of lent) ≡ done b →
    (z z' : List Float) (workRoom workRoom' : ℕ) →
    let ints = (setup_left (done b) lent).ints in
    let floats = (setup_left (done b) lent).floats in
    T (is_done (apply_call b.setup ints floats r (length z) workRoom)) →
    T (is_done (apply_call b.setup ints floats r' (length z') workRoom')) →
    T (agree part o.block a.rows (apply_left b.setup ints floats r z workRoom) (apply_left b.setup ints floats r' z' workRoom'))
