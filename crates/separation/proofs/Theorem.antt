-- DEMAND 3, of the corrected vectors: an unconnected part keeps its figures whatever load the rest carries.
-- The corrections are near on the part (`applied_near`), and the numbers of a run that ends finite are finite: so they are equal, +0 and -0 taken as equal.
use mathlib.Core.Path.{◌≡◌, refl, sym, ap, ◌∙◌, subst}
use mathlib.Core.Bool.{Bool, true, false, not, ◌&&◌, ◌||◌}
use mathlib.Core.List.{List, [], ◌++◌, append-nil}
use Prim.Native.Nat.{ℕ, ◌+◌, ◌*◌, ◌/◌, ◌<◌}
use lib.Dec.{T}
use lib.ListN.{length, get_or}
use lib.Ieee.{Float, nan, binary64, eq, fits}
use lib.Ieee.Fits.{and_l, and_r}
use lib.Ieee.Scale.{finite}
use Rattle.definitions.specs.Lists.{all, between}
use Rattle.definitions.specs.Refusal.{Outcome, refused, done}
use Rattle.definitions.specs.Matrix.{Matrix}
use Rattle.definitions.specs.Links.{unconnected}
use Rattle.definitions.specs.Setup.{setup_of}
use Rattle.definitions.specs.Block.{block_count, width_of, block_part}
use Rattle.definitions.specs.Places.{factors_in, coarse_in}
use Rattle.definitions.specs.Apply.{restricted, coarse_solution, applied, corrected, ample}
use Rattle.definitions.specs.Formed.{each, block_solve_formed, restriction_formed, coarse_solve_formed, gain_formed, setup_formed, apply_formed, formed, all_finite}
use Rattle.definitions.specs.Separation.{agree, follows_graph, is_done, f64s, Apart, agreeing, Separation}
use Rattle.definitions.specs.declared.Options.{Options}
use Rattle.definitions.specs.declared.Setup.{Setup}
use Rattle.laws.proofs.Lists.{Each, each_all, all_each, each_up_to, all_up_to, each_at, each_right, length_tab}
use Rattle.laws.proofs.Near.{Near, near_of_eq, near_to_eq}
use Rattle.laws.proofs.Outcomes.{done_inj, bind_done, done_bind}
use Rattle.separation.proofs.Stages.{Stages, built, formed_is, stages_of}
use Rattle.separation.proofs.ApplyApart.{applied_by, applied_near}
use Rattle.separation.proofs.Places.{applied_read}

-- ---- what is done has a result

pub result_of : {A : Type 0} (x : Outcome A) → T (is_done x) → (v : A) × (x ≡ done v)
unfolding is_done
result_of (refused r) t = absurd t
result_of (done v) t = (v, refl)

-- ---- agreement, row by row

either_or : (p q : Bool) → (T p → T q) → T (not p || q)
either_or true q f = f tt
either_or false q f = tt

or_then : (p q : Bool) → T (not p || q) → T p → T q
or_then true q h t = h
or_then false q h t = absurd t

pub agree_at : (part : ℕ → Bool) (size rows : ℕ) (x y : List Float) → T (agree part size rows x y) → (i : ℕ) → i < rows → T (part (i / size)) → T (eq (get_or x i nan) (get_or y i nan))
unfolding agree
agree_at part size rows x y h i l t = or_then (part (i / size)) (eq (get_or x i nan) (get_or y i nan)) (all_up_to (λ k. not (part (k / size)) || eq (get_or x k nan) (get_or y k nan)) rows h i l) t

pub agree_by : (part : ℕ → Bool) (size rows : ℕ) (x y : List Float) → ((i : ℕ) → i < rows → T (part (i / size)) → T (eq (get_or x i nan) (get_or y i nan)))
    → T (agree part size rows x y)
unfolding agree
agree_by part size rows x y h = all_each (λ k. not (part (k / size)) || eq (get_or x k nan) (get_or y k nan)) (each_up_to rows (λ i l. either_or (part (i / size)) (eq (get_or x i nan) (get_or y i nan)) (h i l)))

-- ---- an apply hands out the last of the numbers that it forms

handed_out_lem : {P : Float → Type 0} (x : Setup) (ints : List ℕ) (floats r : List Float) → Each P (apply_formed x ints floats r) → Each P (applied x ints floats r)
unfolding apply_formed
handed_out_lem x ints floats r h =
    let sol = coarse_solution x ints floats r in
    each_right
    (each (block_count x.rows x.block) (λ k. let w = width_of x.rows x.block k in block_solve_formed (block_part x.block w k (factors_in x floats)) w (between (k * x.block) (k * x.block + w) r))
    ++ each x.coarse (λ j. restriction_formed x ints floats x.basis r j)
    ++ coarse_solve_formed x.policy x.coarse (coarse_in x floats) (restricted x ints floats r)
    ++ each x.rows (λ i. gain_formed x ints floats x.basis sol i)) h

-- ---- one accepted setup

module _ {a : Matrix} {o : Options} (s : Stages a o) where
  -- the corrected vector
  pub applied_here : (r : List Float) → length r ≡ a.rows → applied (built s).setup (built s).ints (built s).floats r ≡ applied_by s r
  applied_here r long =
      ap (λ (x : List ℕ). applied (built s).setup x (built s).floats r) (sym (append-nil (built s).ints))
      ∙ ap (λ (x : List Float). applied (built s).setup ((built s).ints ++ []) x r) (sym (append-nil (built s).floats))
      ∙ applied_read s [] [] r long

  pub corrected_here : setup_of a o ample ≡ done (built s) → (r : List Float) → length r ≡ a.rows → corrected a o r ≡ done (applied_by s r)
  unfolding corrected
  corrected_here e r long = done_bind (setup_of a o ample) _ (built s) (done (applied_by s r)) e (ap done (applied_here r long))

  -- its numbers are among those formed
  outputs_finite : (r : List Float) → length r ≡ a.rows → T (all_finite (formed a o r)) → (i : ℕ) → i < a.rows → T (finite (get_or (applied_by s r) i nan))
  unfolding all_finite applied_by
  outputs_finite r long f i h =
      each_at {P = λ x. T (finite x)} (applied_by s r) i nan
      (subst (Each (λ x. T (finite x))) (applied_here r long) (handed_out_lem (built s).setup (built s).ints (built s).floats r (each_right (setup_formed a o s.factors s.groups s.transfer s.factor) numbers)))
      (subst (λ (n : ℕ). i < n) (sym (length_tab _ a.rows)) h)
    where
      numbers : Each (λ x. T (finite x)) (setup_formed a o s.factors s.groups s.transfer s.factor ++ apply_formed (built s).setup (built s).ints (built s).floats r)
      numbers = each_all (λ x. finite x) _ (subst (λ (x : Outcome (List Float)). T (all_finite x)) (formed_is s r) f)

  -- row by row the two corrections are near, whatever is formed on the way
  near_at : (part : ℕ → Bool) → T (follows_graph o.aggregation) → T (unconnected a o.block [] part) → (r r' : List Float) → length r ≡ a.rows → length r' ≡ a.rows
      → T (f64s r) → T (f64s r') → T (agree part o.block a.rows r r')
      → (i : ℕ) → i < a.rows → T (part (i / o.block)) → Near (get_or (applied_by s r) i nan) (get_or (applied_by s r') i nan)
  unfolding f64s
  near_at part graph unlinked r r' long long' held held' same = applied_near s part graph unlinked r r' long long' residuals
    where
      fits_at : (x : List Float) → length x ≡ a.rows → T (all (λ y. fits binary64 y) x) → (k : ℕ) → k < a.rows → T (fits binary64 (get_or x k nan))
      fits_at x l g k m = each_at {P = λ y. T (fits binary64 y)} x k nan (each_all (λ y. fits binary64 y) x g) (subst (λ (n : ℕ). k < n) (sym l) m)

      residuals : (k : ℕ) → k < a.rows → T (part (k / o.block)) → Near (get_or r k nan) (get_or r' k nan)
      residuals k m u = near_of_eq (get_or r k nan) (get_or r' k nan) (fits_at r long held k m) (fits_at r' long' held' k m) (agree_at part o.block a.rows r r' same k m u)

  -- row by row: of all the numbers formed, only the two that are handed out for the row need be finite
  pub separation_at : (part : ℕ → Bool) → T (follows_graph o.aggregation) → T (unconnected a o.block [] part) → (r r' : List Float) → length r ≡ a.rows → length r' ≡ a.rows
      → T (f64s r) → T (f64s r') → T (agree part o.block a.rows r r')
      → (i : ℕ) → i < a.rows → T (part (i / o.block)) → T (finite (get_or (applied_by s r) i nan)) → T (finite (get_or (applied_by s r') i nan))
      → T (eq (get_or (applied_by s r) i nan) (get_or (applied_by s r') i nan))
  separation_at part graph unlinked r r' long long' held held' same i h t f f' =
      near_to_eq (get_or (applied_by s r) i nan) (get_or (applied_by s r') i nan) (near_at part graph unlinked r r' long long' held held' same i h t) f f'

agreeing_done : (part : ℕ → Bool) (size rows : ℕ) (x y : List Float) (u v : Outcome (List Float)) → u ≡ done x → v ≡ done y → T (agree part size rows x y)
    → T (agreeing part size rows u v)
unfolding agreeing
agreeing_done part size rows x y u v e d h =
    subst (λ (w : Outcome (List Float)). T (agreeing part size rows w v)) (sym e) (subst (λ (w : Outcome (List Float)). T (agreeing part size rows (done x) w)) (sym d) h)

-- ---- the theorem

pub vectors_agree : (a : Matrix) (o : Options) (part : ℕ → Bool) (r r' : List Float) → Apart a o part r r' → (s : Stages a o)
    → T (agree part o.block a.rows (applied_by s r) (applied_by s r'))
vectors_agree a o part r r' A s =
    agree_by part o.block a.rows (applied_by s r) (applied_by s r')
    (λ i h t. near_to_eq (get_or (applied_by s r) i nan) (get_or (applied_by s r') i nan)
    (near_at s part A.graph A.unlinked r r' A.long A.long' (and_r (f64s a.values) (f64s r) (and_l (f64s a.values && f64s r) (f64s r') A.are_f64)) (and_r (f64s a.values && f64s r) (f64s r') A.are_f64) A.same i h t)
    (outputs_finite s r A.long A.formed_finite i h) (outputs_finite s r' A.long' A.formed_finite' i h))

pub separation : Separation
separation a o part r r' A t =
    let x = result_of (setup_of a o ample) t in
    let y = stages_of a o ample x.0 x.1 in
    let s = y.stages in
    let e : setup_of a o ample ≡ done (built s) = x.1 ∙ ap done y.is in
    agreeing_done part o.block a.rows (applied_by s r) (applied_by s r') (corrected a o r) (corrected a o r')
    (corrected_here s e r A.long) (corrected_here s e r' A.long') (vectors_agree a o part r r' A s)

-- THE STRONGER FORM, row by row: of all the numbers formed, only the two that are handed out for the row need be finite, and the matrix need not be one of f64s
pub separation_by_row : (a : Matrix) (o : Options) (part : ℕ → Bool) (r r' z z' : List Float) → T (follows_graph o.aggregation) → T (unconnected a o.block [] part)
    → T (agree part o.block a.rows r r') → length r ≡ a.rows → length r' ≡ a.rows → T (f64s r) → T (f64s r') → corrected a o r ≡ done z → corrected a o r' ≡ done z'
    → (i : ℕ) → i < a.rows → T (part (i / o.block)) → T (finite (get_or z i nan)) → T (finite (get_or z' i nan)) → T (eq (get_or z i nan) (get_or z' i nan))
unfolding corrected
separation_by_row a o part r r' z z' graph unlinked same long long' held held' e e' i h t f f' =
    let x = bind_done (setup_of a o ample) _ z e in
    let y = stages_of a o ample x.0 x.1 in
    let s = y.stages in
    let d : setup_of a o ample ≡ done (built s) = x.1 ∙ ap done y.is in
    let u : applied_by s r ≡ z = done_inj (sym (corrected_here s d r long) ∙ e) in
    let u' : applied_by s r' ≡ z' = done_inj (sym (corrected_here s d r' long') ∙ e') in
    subst (λ (w : List Float). T (eq (get_or w i nan) (get_or z' i nan))) u (subst (λ (w : List Float). T (eq (get_or (applied_by s r) i nan) (get_or w i nan))) u'
    (near_to_eq (get_or (applied_by s r) i nan) (get_or (applied_by s r') i nan) (near_at s part graph unlinked r r' long long' held held' same i h t)
    (subst (λ (w : List Float). T (finite (get_or w i nan))) (sym u) f) (subst (λ (w : List Float). T (finite (get_or w i nan))) (sym u') f')))
