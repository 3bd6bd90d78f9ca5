-- An accepted setup, taken apart: what each stage gave, and what the checks made sure of.
use mathlib.Core.Path.{◌≡◌, refl, sym, ap, ◌∙◌, subst}
use mathlib.Core.Bool.{not, ◌&&◌}
use mathlib.Core.List.{List, ◌++◌}
use Prim.Native.Nat.{ℕ, ◌+◌, ◌*◌, ◌/◌, ◌%◌, ◌≤◌}
use native.Mathlib.Nat.{div-add-mod', add-zero}
use lib.Dec.{T, leb, leb→le, eqb→eq}
use lib.ListN.{length, get_or}
use lib.Ieee.{Float}
use lib.Ieee.Fits.{and_l, and_r}
use Rattle.definitions.specs.Lists.{any, falls}
use Rattle.definitions.specs.Refusal.{Outcome, done, require, ◌>>=◌}
use Rattle.definitions.specs.Matrix.{Matrix, max_rows, max_entries, structure_of, valid_of}
use Rattle.definitions.specs.Block.{max_block, factors_of}
use Rattle.definitions.specs.Groups.{Grouping, max_group}
use Rattle.definitions.specs.Coarse.{averaged_square, coarse_factor}
use Rattle.definitions.specs.Places.{node_count, Lengths, entry_needs, coarse_needs, covers}
use Rattle.definitions.specs.Setup.{front_of, grouping_of, max_coarse, Transfer, transfer_for, coarse_matrix, Built, built_from, setup_of}
use Rattle.definitions.specs.Formed.{setup_formed, apply_formed, formed}
use Rattle.definitions.specs.declared.Options.{Options}
use Rattle.definitions.specs.declared.Refusal.TheVariants.{TooLarge, RowListLength, ColumnListLength, FirstPointer, LastPointer, PointerFalls, ColumnOutside, NotSquare, BlockSize, GroupSize, NotMultiple, ListTooShort, CoarseTooLarge, CoarseListTooShort}
use Rattle.laws.proofs.Outcomes.{done_inj, bind_done, done_bind, skip_done, test_passed, pass_test, last_passed}

-- ---- the checks

pub record Sound (a : Matrix) (o : Options) : Type 0 where
  pub rows_limit : a.rows ≤ max_rows
  pub entries_limit : length a.values ≤ max_entries
  pub ptr_length : length a.row_ptr ≡ a.rows + 1
  pub idx_length : length a.col_idx ≡ length a.values
  pub ptr_first : get_or a.row_ptr 0 1 ≡ 0
  pub ptr_last : get_or a.row_ptr a.rows 0 ≡ length a.values
  pub ptr_rises : T (not (falls a.row_ptr))
  pub idx_inside : T (not (any (λ c. leb a.rows c) a.col_idx))
  pub block_some : 1 ≤ o.block
  pub block_limit : o.block ≤ max_block
  pub group_some : 1 ≤ o.group
  pub group_limit : o.group ≤ max_group
  pub whole : node_count a o * o.block ≡ a.rows

pub sound_of : (a : Matrix) (o : Options) → front_of a o ≡ done tt → Sound a o
unfolding front_of valid_of structure_of
sound_of a o e =
    let v = bind_done (valid_of a) _ tt e in
    let s = bind_done (structure_of a) _ tt v.1 in
    let f1 = test_passed _ NotSquare _ tt v.2 in
    let f2 = test_passed _ BlockSize _ tt f1.1 in
    let f3 = test_passed _ GroupSize _ tt f2.1 in
    let f4 = last_passed _ NotMultiple f3.1 in
    let v1 = test_passed _ TooLarge _ tt s.1 in
    let v2 = test_passed _ RowListLength _ tt v1.1 in
    let v3 = test_passed _ ColumnListLength _ tt v2.1 in
    let v4 = test_passed _ FirstPointer _ tt v3.1 in
    let v5 = test_passed _ LastPointer _ tt v4.1 in
    let v6 = test_passed _ PointerFalls _ tt v5.1 in
    let v7 = last_passed _ ColumnOutside v6.1 in
    let limits : T (leb a.rows max_rows && leb a.cols max_rows) = and_l (leb a.rows max_rows && leb a.cols max_rows) (leb (length a.values) max_entries) v1.0 in
    record {
      rows_limit = leb→le a.rows max_rows (and_l (leb a.rows max_rows) (leb a.cols max_rows) limits);
      entries_limit = leb→le (length a.values) max_entries (and_r (leb a.rows max_rows && leb a.cols max_rows) (leb (length a.values) max_entries) v1.0);
      ptr_length = eqb→eq (length a.row_ptr) (a.rows + 1) v2.0;
      idx_length = eqb→eq (length a.col_idx) (length a.values) v3.0;
      ptr_first = eqb→eq (get_or a.row_ptr 0 1) 0 v4.0;
      ptr_last = eqb→eq (get_or a.row_ptr a.rows 0) (length a.values) v5.0;
      ptr_rises = v6.0;
      idx_inside = subst (λ (n : ℕ). T (not (any (λ c. leb n c) a.col_idx))) (eqb→eq a.cols a.rows f1.0) v7;
      block_some = leb→le 1 o.block (and_l (leb 1 o.block) (leb o.block max_block) f2.0);
      block_limit = leb→le o.block max_block (and_r (leb 1 o.block) (leb o.block max_block) f2.0);
      group_some = leb→le 1 o.group (and_l (leb 1 o.group) (leb o.group max_group) f3.0);
      group_limit = leb→le o.group max_group (and_r (leb 1 o.group) (leb o.group max_group) f3.0);
      whole = sym (add-zero (a.rows / o.block * o.block)) ∙ ap (λ (m : ℕ). a.rows / o.block * o.block + m) (sym (eqb→eq (a.rows % o.block) 0 f4)) ∙ div-add-mod' a.rows o.block;
    }

-- ---- the stages

pub record Stages (a : Matrix) (o : Options) : Type 0 where
  pub factors : List Float
  pub groups : Grouping
  pub transfer : Transfer
  pub factor : List Float
  pub front : front_of a o ≡ done tt
  pub factored : factors_of a o.block ≡ done factors
  pub grouped : grouping_of o.aggregation a o ≡ done groups
  pub small : T (leb (groups.count * o.block) max_coarse)
  pub transferred : transfer_for o.basis a o.block groups.ids (groups.count * o.block) ≡ done transfer
  pub coarse : coarse_factor (groups.count * o.block) (averaged_square (groups.count * o.block) (coarse_matrix a o groups transfer)) ≡ done factor

module _ {a : Matrix} {o : Options} (s : Stages a o) where
  -- the coarse dimension, the averaged coarse matrix, and what is built
  abbrev pub dimension : ℕ
  dimension = s.groups.count * o.block

  abbrev pub coarse_averaged : List Float
  coarse_averaged = averaged_square dimension (coarse_matrix a o s.groups s.transfer)

  abbrev pub built : Built
  built = built_from a o s.factors s.groups s.transfer coarse_averaged s.factor

  pub sound : Sound a o
  sound = sound_of a o s.front

  -- room that covers what 13 and 18 ask is accepted, and gives the same
  pub accepts : (room : Lengths) → T (covers room (entry_needs a o)) → T (covers room (coarse_needs dimension (entry_needs a o))) → setup_of a o room ≡ done built
  unfolding setup_of
  accepts room p q =
      done_bind (front_of a o) _ tt (done built) s.front
      (pass_test (covers room (entry_needs a o)) ListTooShort _ (done built) p
      (done_bind (factors_of a o.block) _ s.factors (done built) s.factored
      (done_bind (grouping_of o.aggregation a o) _ s.groups (done built) s.grouped
      (done_bind (done dimension) _ dimension (done built) refl
      (pass_test (leb dimension max_coarse) (CoarseTooLarge dimension) _ (done built) s.small
      (pass_test (covers room (coarse_needs dimension (entry_needs a o))) (CoarseListTooShort dimension) _ (done built) q
      (done_bind (transfer_for o.basis a o.block s.groups.ids dimension) _ s.transfer (done built) s.transferred
      (done_bind (done coarse_averaged) _ coarse_averaged (done built) refl
      (done_bind (coarse_factor dimension coarse_averaged) _ s.factor (done built) s.coarse refl)))))))))

  pub formed_is : (r : List Float)
      → formed a o r ≡ done (setup_formed a o s.factors s.groups s.transfer s.factor ++ apply_formed built.setup built.ints built.floats r)
  unfolding formed
  formed_is r =
      let out = done (setup_formed a o s.factors s.groups s.transfer s.factor ++ apply_formed built.setup built.ints built.floats r) in
      done_bind (factors_of a o.block) _ s.factors out s.factored
      (done_bind (grouping_of o.aggregation a o) _ s.groups out s.grouped
      (done_bind (done dimension) _ dimension out refl
      (done_bind (transfer_for o.basis a o.block s.groups.ids dimension) _ s.transfer out s.transferred
      (done_bind (done coarse_averaged) _ coarse_averaged out refl
      (done_bind (coarse_factor dimension coarse_averaged) _ s.factor out s.coarse
      (done_bind (done built) _ built out refl refl))))))

pub record Accepted (a : Matrix) (o : Options) (b : Built) : Type 0 where
  pub stages : Stages a o
  pub is : b ≡ built stages

-- the stages behind the grouping, and those behind the transfer
late : Matrix → Options → Lengths → List Float → Grouping → Outcome Built
late a o room factors g = do
  c ← done (g.count * o.block)
  _ ← require (leb c max_coarse) (CoarseTooLarge c)
  _ ← require (covers room (coarse_needs c (entry_needs a o))) (CoarseListTooShort c)
  t ← transfer_for o.basis a o.block g.ids c
  m ← done (averaged_square c (coarse_matrix a o g t))
  factor ← coarse_factor c m
  done (built_from a o factors g t m factor)

last : Matrix → Options → List Float → Grouping → Transfer → Outcome Built
last a o factors g t = do
  m ← done (averaged_square (g.count * o.block) (coarse_matrix a o g t))
  factor ← coarse_factor (g.count * o.block) m
  done (built_from a o factors g t m factor)

module _ (a : Matrix) (o : Options) (room : Lengths) (b : Built) (factors : List Float) (g : Grouping)
    (front : front_of a o ≡ done tt) (factored : factors_of a o.block ≡ done factors) (grouped : grouping_of o.aggregation a o ≡ done g) where
  from_last : (t : Transfer) → T (leb (g.count * o.block) max_coarse) → transfer_for o.basis a o.block g.ids (g.count * o.block) ≡ done t
      → last a o factors g t ≡ done b → Accepted a o b
  unfolding last
  from_last t small transferred e =
      let m = averaged_square (g.count * o.block) (coarse_matrix a o g t) in
      let s = bind_done (coarse_factor (g.count * o.block) m) _ b (skip_done m _ b e) in
      record {
        stages = record { factors = factors; groups = g; transfer = t; factor = s.0; front = front; factored = factored; grouped = grouped; small = small; transferred = transferred; coarse = s.1 };
        is = sym (done_inj s.2);
      }

  from_late : late a o room factors g ≡ done b → Accepted a o b
  unfolding late last
  from_late e =
      let c = g.count * o.block in
      let s1 = test_passed (leb c max_coarse) (CoarseTooLarge c) _ b (skip_done c _ b e) in
      let s2 = test_passed (covers room (coarse_needs c (entry_needs a o))) (CoarseListTooShort c) _ b s1.1 in
      let s3 = bind_done (transfer_for o.basis a o.block g.ids c) _ b s2.1 in
      from_last s3.0 s1.0 s3.1 s3.2

pub stages_of : (a : Matrix) (o : Options) (room : Lengths) (b : Built) → setup_of a o room ≡ done b → Accepted a o b
unfolding setup_of late
stages_of a o room b e =
    let s1 = bind_done (front_of a o) _ b e in
    let s2 = test_passed (covers room (entry_needs a o)) ListTooShort _ b s1.2 in
    let s3 = bind_done (factors_of a o.block) _ b s2.1 in
    let s4 = bind_done (grouping_of o.aggregation a o) _ b s3.2 in
    from_late a o room b s3.0 s4.0 s1.1 s3.1 s4.1 s4.2
