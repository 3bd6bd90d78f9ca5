-- Setup is its stages put together; and two stages that simulate their definitions, one after the other, simulate their chain.
use Rattle.std.specs.Prelude.{Err, Ok, Result}
use mathlib.Core.Path.{◌≡◌, refl, ap, sym, ◌∙◌, subst, fun_ext}
use mathlib.Core.List.{List, []}
use Prim.Native.Nat.{ℕ, ◌*◌}
use lib.Dec.{leb}
use lib.Ieee.{Float}
use lib.ListN.{length}
use Rattle.definitions.specs.Refusal.{Outcome, Checked, refused, done, require, ◌>>=◌}
use Rattle.definitions.specs.Matrix.{Matrix}
use Rattle.definitions.specs.Block.{factors_of}
use Rattle.definitions.specs.Groups.{Grouping}
use Rattle.definitions.specs.Coarse.{averaged_square, coarse_factor}
use Rattle.definitions.specs.Places.{Lengths, entry_needs, coarse_needs, covers}
use Rattle.definitions.specs.Setup.{Lent, front_of, grouping_of, max_coarse, Transfer, transfer_for, coarse_matrix, Built, built_from, setup_of}
use Rattle.definitions.specs.declared.Options.{Options}
use Rattle.definitions.specs.declared.Setup.{Setup}
use Rattle.definitions.specs.declared.Refusal.{Refusal}
use Rattle.definitions.specs.declared.Refusal.TheVariants.{ListTooShort, CoarseTooLarge, CoarseListTooShort}
use Rattle.laws.proofs.Outcomes.{done_inj, refused_not_done}
use Rattle.csr32.specs.Calls.{goes_on, stops}
use Rattle.two_level_setup.specs.Stages.{Parts, started, filled, built_of, parts_answer, grouped, fine_of, room_checked, transferred, transfer_stage, matrix_of, stored, coarse_stage, coarse_level_of, build_of, built_for}
use Rattle.two_level_setup.specs.Promises.{Holds, Leaves}

-- ---- chains

module _ {A B C : Type 0} where
  then_then : (o : Outcome A) (f : A → Outcome B) (g : B → Outcome C) → (o >>= f >>= g) ≡ (o >>= (λ x. f x >>= g))
  unfolding ◌>>=◌
  then_then (done x) f g = refl
  then_then (refused r) f g = refl

  made_then : (o : Outcome A) (make : A → B) (next : B → Outcome C) → (o >>= (λ x. done (make x)) >>= next) ≡ (o >>= (λ x. next (make x)))
  unfolding ◌>>=◌
  made_then (done x) make next = refl
  made_then (refused r) make next = refl

-- ---- SETUP is its stages after 1 to 13

module _ (a : Matrix) (o : Options) (room : Lengths) where
  -- the coarse part
  part_splits : (factors : List Float) (g : Grouping) (t : Transfer) → (coarse_stage a (transferred (grouped a o factors g) t) >>= (λ p. done (built_of p)))
      ≡ (coarse_factor (g.count * o.block) (averaged_square (g.count * o.block) (coarse_matrix a o g t)) >>= (λ l. done (built_from a o factors g t (averaged_square (g.count * o.block) (coarse_matrix a o g t)) l)))
  unfolding coarse_stage transferred grouped started filled stored matrix_of coarse_matrix built_of built_from
  part_splits factors g t =
      let m : List Float = averaged_square (g.count * o.block) (coarse_matrix a o g t) in
      made_then (coarse_factor (g.count * o.block) m) (λ l. stored (length a.values) (transferred (grouped a o factors g) t) m l) (λ p. done (built_of p))

  -- from the transfer on
  level_splits : (factors : List Float) (g : Grouping) → (transfer_stage a (grouped a o factors g) >>= (λ q. coarse_stage a q) >>= (λ p. done (built_of p)))
      ≡ (transfer_for o.basis a o.block g.ids (g.count * o.block)
      >>= (λ t. coarse_factor (g.count * o.block) (averaged_square (g.count * o.block) (coarse_matrix a o g t)) >>= (λ l. done (built_from a o factors g t (averaged_square (g.count * o.block) (coarse_matrix a o g t)) l))))
  unfolding transfer_stage grouped started
  level_splits factors g =
      then_then (transfer_stage a (grouped a o factors g)) (λ q. coarse_stage a q) (λ p. done (built_of p))
      ∙ made_then (transfer_for o.basis a o.block g.ids (g.count * o.block)) (λ t. transferred (grouped a o factors g) t) (λ q. coarse_stage a q >>= (λ p. done (built_of p)))
      ∙ ap (λ f. transfer_for o.basis a o.block g.ids (g.count * o.block) >>= f) (fun_ext (λ t. part_splits factors g t))

  -- from room for the coarse part on
  coarse_splits : (factors : List Float) (g : Grouping) → (coarse_level_of a room (grouped a o factors g) >>= (λ p. done (built_of p)))
      ≡ (require (leb (g.count * o.block) max_coarse) (CoarseTooLarge (g.count * o.block))
      >>= (λ _. require (covers room (coarse_needs (g.count * o.block) (entry_needs a o))) (CoarseListTooShort (g.count * o.block)) >>= (λ _. transfer_for o.basis a o.block g.ids (g.count * o.block)
      >>= (λ t. coarse_factor (g.count * o.block) (averaged_square (g.count * o.block) (coarse_matrix a o g t)) >>= (λ l. done (built_from a o factors g t (averaged_square (g.count * o.block) (coarse_matrix a o g t)) l))))))
  unfolding coarse_level_of room_checked grouped started entry_needs
  coarse_splits factors g =
      let c : ℕ = g.count * o.block in
      let wide : Checked = require (leb c max_coarse) (CoarseTooLarge c) in
      let long : Checked = require (covers room (coarse_needs c (entry_needs a o))) (CoarseListTooShort c) in
      let level : Outcome Parts = transfer_stage a (grouped a o factors g) >>= (λ q. coarse_stage a q) in
      then_then (wide >>= (λ _. long)) (λ _. level) (λ p. done (built_of p))
      ∙ then_then wide (λ _. long) (λ _. level >>= (λ p. done (built_of p)))
      ∙ ap (λ x. wide >>= (λ _. long >>= (λ _. x))) (level_splits factors g)

  built_splits : built_for a o room ≡ (factors_of a o.block >>= (λ factors. grouping_of o.aggregation a o >>= (λ g. require (leb (g.count * o.block) max_coarse) (CoarseTooLarge (g.count * o.block))
      >>= (λ _. require (covers room (coarse_needs (g.count * o.block) (entry_needs a o))) (CoarseListTooShort (g.count * o.block)) >>= (λ _. transfer_for o.basis a o.block g.ids (g.count * o.block)
      >>= (λ t. coarse_factor (g.count * o.block) (averaged_square (g.count * o.block) (coarse_matrix a o g t)) >>= (λ l. done (built_from a o factors g t (averaged_square (g.count * o.block) (coarse_matrix a o g t)) l))))))))
  unfolding built_for build_of fine_of
  built_splits =
      let out : Parts → Outcome Built = λ p. done (built_of p) in
      let level : Parts → Outcome Built = λ p. coarse_level_of a room p >>= out in
      then_then (fine_of a o) (λ p. coarse_level_of a room p) out
      ∙ then_then (factors_of a o.block) (λ factors. grouping_of o.aggregation a o >>= (λ g. done (grouped a o factors g))) level
      ∙ ap (λ f. factors_of a o.block >>= f) (fun_ext (λ factors. made_then (grouping_of o.aggregation a o) (λ g. grouped a o factors g) level ∙ ap (λ f. grouping_of o.aggregation a o >>= f) (fun_ext (λ g. coarse_splits factors g))))

  pub setup_splits : setup_of a o room ≡ (front_of a o >>= (λ _. require (covers room (entry_needs a o)) ListTooShort >>= (λ _. built_for a o room)))
  unfolding setup_of ◌>>=◌
  setup_splits = ap (λ x. front_of a o >>= (λ _. require (covers room (entry_needs a o)) ListTooShort >>= (λ _. x))) (sym built_splits)

-- ---- stages one after the other

pub refused_is : (o : Outcome Parts) (r : Refusal) → Err r ≡ parts_answer o → o ≡ refused r
unfolding parts_answer
refused_is (done p) r e = cc
refused_is (refused q) r e = cc

pub built_is : (o : Outcome Parts) (s : Setup) → Ok s ≡ parts_answer o → (p : Parts) × (o ≡ done p) × (p.setup ≡ s)
unfolding parts_answer
built_is (done p) s e = (p, refl, cc)
built_is (refused q) s e = (record { setup = s; factors = []; ids = []; weights = []; coarse = [] }, cc, refl)

pub leaves_refused : (o : Outcome Parts) (r : Refusal) (y : Lent) → o ≡ refused r → Leaves o (Err r) y
unfolding parts_answer
leaves_refused o r y e = record { answer = rw e; left = λ p k. absurd (refused_not_done (sym e ∙ k)) }

pub leaves_done : (o : Outcome Parts) (p : Parts) (y : Lent) → o ≡ done p → Holds p y → Leaves o (Ok p.setup) y
unfolding parts_answer
leaves_done o p y e h = record { answer = rw e; left = λ q k. subst (λ z. Holds z y) (done_inj (sym e ∙ k)) h }

pub leaves_same : (o p : Outcome Parts) (r : (Result Setup Refusal)) (y : Lent) → o ≡ p → Leaves p r y → Leaves o r y
leaves_same o p r y e l = subst (λ q. Leaves q r y) (sym e) l

module _ (o : Outcome Parts) (next : Parts → Outcome Parts) (r : (Result Setup Refusal)) (x : Lent) (l : Leaves o r x) where
  pub stops_there : (q : Refusal) (y : Lent) → r ≡ Err q → Leaves (o >>= next) (Err q) y
  stops_there q y e = leaves_refused (o >>= next) q y (stops o q next (refused_is o q (sym e ∙ l.answer)))

  pub goes_further : (s : Setup) (r' : (Result Setup Refusal)) (y : Lent) → r ≡ Ok s → ((p : Parts) → o ≡ done p → p.setup ≡ s → Holds p x → Leaves (next p) r' y) → Leaves (o >>= next) r' y
  goes_further s r' y e k =
      let b = built_is o s (sym e ∙ l.answer) in
      leaves_same (o >>= next) (next b.0) r' y (goes_on o b.0 next b.1) (k b.0 b.1 b.2 (l.left b.0 b.1))
