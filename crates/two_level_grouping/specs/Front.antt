-- Causes 9 to 12, which setup asks after those of the matrix, and what all of 1 to 12 leave.
use Rattle.std.specs.Prelude.{ℕ, ◌*◌, ◌%◌, ◌≤◌, ◌≡◌, refl, true, ◌&&◌, leb, eqb}
use Rattle.std.proofs.Common.{sym, ◌∙◌, arith, div-add-mod', leb-true, eqb-true}
use Rattle.definitions.specs.Refusal.{Outcome, refused, done, Checked, require, ◌>>=◌, keeps_all, cause_of}
use Rattle.definitions.specs.Matrix.{Matrix, valid_of}
use Rattle.definitions.specs.Block.{max_block}
use Rattle.definitions.specs.Groups.{max_group}
use Rattle.definitions.specs.Places.{node_count}
use Rattle.definitions.specs.Setup.{front_of}
use Rattle.definitions.specs.declared.Options.{Options}
use Rattle.definitions.specs.declared.Refusal.{Refusal}
use Rattle.definitions.specs.declared.Refusal.TheVariants.{NotSquare, BlockSize, GroupSize, NotMultiple}
use Rattle.csr32.specs.Rows.{Rows, rows_of}
use Rattle.csr32.specs.Calls.{Keeps, keeps_require, keeps_then, keeps_refused}
use Rattle.csr32.specs.Valid.{valid_keeps}
use Rattle.laws.proofs.Tests.{both_true}
use Rattle.laws.proofs.Outcomes.{last_true}

-- 9 to 12
unfoldable pub shape_of : ℕ → ℕ → ℕ → ℕ → Checked
shape_of rows cols block group = do
  _ ← require (eqb cols rows) NotSquare
  _ ← require (leb 1 block && leb block max_block) BlockSize
  _ ← require (leb 1 group && leb group max_group) GroupSize
  require (eqb (rows % block) 0) NotMultiple

pub front_splits : (a : Matrix) (o : Options) → front_of a o ≡ (valid_of a >>= (λ _. shape_of a.rows a.cols o.block o.group))
unfolding front_of shape_of
front_splits a o = refl

-- what 9 to 12 leave
pub record Shape (a : Matrix) (o : Options) : Type 0 where
  pub square : a.cols ≡ a.rows
  pub least : 1 ≤ o.block
  pub most : o.block ≤ max_block
  pub some : 1 ≤ o.group
  pub fewest : o.group ≤ max_group
  pub whole : a.rows % o.block ≡ 0

-- what 1 to 12 leave
pub record Front (a : Matrix) (o : Options) : Type 0 where
  pub valid : valid_of a ≡ done tt
  pub square : a.cols ≡ a.rows
  pub least : 1 ≤ o.block
  pub most : o.block ≤ max_block
  pub some : 1 ≤ o.group
  pub fewest : o.group ≤ max_group
  pub whole : a.rows % o.block ≡ 0

pub then_done : {A : Type 0} (o : Checked) (next : Unit {0} → Outcome A) (x : A) → (o >>= next) ≡ done x → (o ≡ done tt) × (next tt ≡ done x)
unfolding ◌>>=◌
then_done (done tt) next x e = (refl, e)
then_done (refused r) next x e = (cc, cc)

pub shape_of_lem : (a : Matrix) (o : Options) → shape_of a.rows a.cols o.block o.group ≡ done tt → Shape a o
unfolding shape_of
shape_of_lem a o e =
    let p9 = then_done _ _ _ e in
    let p10 = then_done _ _ _ p9.1 in
    let p11 = then_done _ _ _ p10.1 in
    let b = both_true _ _ (last_true _ _ p10.0) in
    let g = both_true _ _ (last_true _ _ p11.0) in
    record {
      square = eqb-true _ _ (last_true _ _ p9.0);
      least = leb-true _ _ b.0;
      most = leb-true _ _ b.1;
      some = leb-true _ _ g.0;
      fewest = leb-true _ _ g.1;
      whole = eqb-true _ _ (last_true _ _ p11.1);
    }

-- 1 to 8, and 9 to 12 by sizes
pub front_with : (a : Matrix) (o : Options) → valid_of a ≡ done tt → Shape a o → Front a o
front_with a o v s = record { valid = v; square = s.square; least = s.least; most = s.most; some = s.some; fewest = s.fewest; whole = s.whole }

-- 10 alone
pub shape_least : (rows cols block group : ℕ) → shape_of rows cols block group ≡ done tt → 1 ≤ block
unfolding shape_of
shape_least rows cols block group e =
    let p10 = then_done _ _ _ (then_done _ _ _ e).1 in
    leb-true _ _ (both_true _ _ (last_true _ _ p10.0)).0

pub front_parts : (a : Matrix) (o : Options) → front_of a o ≡ done tt → (valid_of a ≡ done tt) × (shape_of a.rows a.cols o.block o.group ≡ done tt)
front_parts a o e = then_done _ _ _ (sym (front_splits a o) ∙ e)

pub front_of_lem : (a : Matrix) (o : Options) → front_of a o ≡ done tt → Front a o
front_of_lem a o e = let p = front_parts a o e in front_with a o p.0 (shape_of_lem a o p.1)

-- the nodes' rows are all of them
pub rows_whole : (a : Matrix) (o : Options) → Front a o → node_count a o * o.block ≡ a.rows
rows_whole a o f = omega (arith, div-add-mod' a.rows o.block, f.whole)

pub front_rows : (a : Matrix) (o : Options) → Front a o → Rows a
front_rows a o f = rows_of a f.valid

-- 1 to 12 leave all lists as they were
pub shape_keeps : (rows cols block group : ℕ) → Keeps (shape_of rows cols block group)
unfolding shape_of keeps_all cause_of
shape_keeps rows cols block group =
    keeps_then _ _ (keeps_require _ NotSquare refl) (λ _.
    keeps_then _ _ (keeps_require _ BlockSize refl) (λ _.
    keeps_then _ _ (keeps_require _ GroupSize refl) (λ _.
    keeps_require _ NotMultiple refl)))

pub front_keeps : (a : Matrix) (o : Options) → Keeps (front_of a o)
front_keeps a o = rw (front_splits a o) (keeps_then (valid_of a) _ (valid_keeps a) (λ _. shape_keeps a.rows a.cols o.block o.group))

pub front_kept : (a : Matrix) (o : Options) (r : Refusal) → front_of a o ≡ refused r → keeps_all r ≡ true
front_kept a o r e = keeps_refused (front_of a o) r (front_keeps a o) e
