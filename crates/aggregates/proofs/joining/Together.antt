-- What `tally`, `pick` and `untally` do together: the group is chosen by its edges, and the counts are as they were.
use mathlib.Core.Path.{◌≡◌, refl, ap, sym, ◌∙◌}
use mathlib.Core.List.{List, [], ◌∷◌}
use Prim.Native.Nat.{ℕ, suc, ◌+◌, ◌<◌}
use native.Mathlib.Omega.{arith}
use native.Mathlib.Decide.{ℕ_discrete}
use borrow.Author.Tests.{eq-eqb, ne_eqb}
use lib.ListN.{length, get_or, set, length-set}
use lib.Seq.{get_or-set_same, get_or-set_other, ext_get_or}
use Rattle.definitions.specs.Groups.{chosen, edges_to}
use Rattle.laws.proofs.Lists.{Each, none, more, each_head, each_tail, each_any}
use Rattle.aggregates.specs.JoinChoice.{better, chosen_goes, bump, wipe, at, Zeros}

edges_same : (g x : ℕ) (xs : List ℕ) → x ≡ g → edges_to (x ∷ xs) g ≡ suc (edges_to xs g)
unfolding edges_to
edges_same g x xs e = rw (edges_to, eq-eqb x g e)

edges_other : (g x : ℕ) (xs : List ℕ) → (x ≡ g → ⊥) → edges_to (x ∷ xs) g ≡ edges_to xs g
unfolding edges_to
edges_other g x xs e = rw (edges_to, ne_eqb x g e)

pub length_bump : (xs w : List ℕ) → length (bump xs w) ≡ length w
unfolding bump
length_bump [] w = refl
length_bump (x ∷ xs) w = length_bump xs (set w x (get_or w x 0 + 1)) ∙ length-set w x (get_or w x 0 + 1)

-- each count is raised by its edges
pub bump_at : (xs w : List ℕ) (g : ℕ) → Each (λ x. x < length w) xs → get_or (bump xs w) g 0 ≡ get_or w g 0 + edges_to xs g
unfolding bump edges_to
bump_at [] w g a = omega arith
bump_at (x ∷ xs) w g a =
    let u = set w x (get_or w x 0 + 1) in
    go (ℕ_discrete x g) (bump_at xs u g (rw (length-set w x (get_or w x 0 + 1)) (each_tail a)))
  where
    go : Dec (x ≡ g) → get_or (bump xs (set w x (get_or w x 0 + 1))) g 0 ≡ get_or (set w x (get_or w x 0 + 1)) g 0 + edges_to xs g → get_or (bump xs (set w x (get_or w x 0 + 1))) g 0 ≡ get_or w g 0 + edges_to (x ∷ xs) g
    go (yes e) ih =
        let s : get_or (set w g (get_or w g 0 + 1)) g 0 ≡ get_or w g 0 + 1 = get_or-set_same w g (get_or w g 0 + 1) 0 (rw e at (each_head a)) in
        ih ∙ rw (edges_same g x xs e, e) (omega (arith, s))
    go (no d) ih = ih ∙ rw (edges_other g x xs d, get_or-set_other w x g (get_or w x 0 + 1) 0 (λ e. d (sym e))) refl

-- the rest is as it was
pub bump_other : (xs w : List ℕ) (k : ℕ) → Each (λ x. k ≡ x → ⊥) xs → get_or (bump xs w) k 0 ≡ get_or w k 0
unfolding bump
bump_other [] w k a = refl
bump_other (x ∷ xs) w k a = bump_other xs (set w x (get_or w x 0 + 1)) k (each_tail a) ∙ get_or-set_other w x k (get_or w x 0 + 1) 0 (each_head a)

wipe_to : (xs u w : List ℕ) → length u ≡ length w → Each (λ x. x < length w) xs → Each (λ x. get_or w x 0 ≡ 0) xs → ((k : ℕ) → Each (λ x. k ≡ x → ⊥) xs → get_or u k 0 ≡ get_or w k 0) → wipe xs u ≡ w
unfolding wipe
wipe_to [] u w l a z agree = ext_get_or 0 u w l (λ k h. agree k none)
wipe_to (x ∷ xs) u w l a z agree = wipe_to xs (set u x 0) w (length-set u x 0 ∙ l) (each_tail a) (each_tail z) (λ k d. go k d (ℕ_discrete k x))
  where
    go : (k : ℕ) → Each (λ y. k ≡ y → ⊥) xs → Dec (k ≡ x) → get_or (set u x 0) k 0 ≡ get_or w k 0
    go k d (yes e) = rw e (get_or-set_same u x 0 0 (omega (arith, each_head a)) ∙ sym (each_head z))
    go k d (no n) = get_or-set_other u x k 0 0 n ∙ agree k (more n d)

-- clearing after counting leaves the list as it was
pub wipe_bump : (xs w : List ℕ) → Each (λ x. x < length w) xs → Zeros w → wipe xs (bump xs w) ≡ w
wipe_bump xs w a z = wipe_to xs (bump xs w) w (length_bump xs w) a (each_any xs z) (λ k d. bump_other xs w k d)

module _ (P : ℕ → Type 0) (e m e' m' : ℕ → ℕ) (same-e : (x : ℕ) → P x → e x ≡ e' x) (same-m : (x : ℕ) → P x → m x ≡ m' x) where
  better_cong : (best a : ℕ) → P best → P a → better e m best a ≡ better e' m' best a
  unfolding better
  better_cong best a p q = rw (better, same-e a q, same-e best p, same-m a q, same-m best p)

  pub chosen_cong : ((b a : ℕ) → P b → P a → P (better e' m' b a)) → (best : ℕ) (l : List ℕ) → P best → Each P l → chosen e m best l ≡ chosen e' m' best l
  unfolding chosen
  chosen_cong keep best [] p a = refl
  chosen_cong keep best (x ∷ l) p a =
      chosen_goes e m best x l ∙ ap (λ b. chosen e m b l) (better_cong best x p (each_head a)) ∙ chosen_cong keep (better e' m' best x) l (keep best x p (each_head a)) (each_tail a) ∙ sym (chosen_goes e' m' best x l)

module _ (counts hits names : List ℕ) (zeros : Zeros hits) (within : Each (λ a. a < length hits) names) where
  -- while the names are counted
  pub edges_counted : (x : ℕ) → at (bump names hits) x ≡ edges_to names x
  edges_counted x = omega (arith, bump_at names hits x within, zeros x)

  pub chosen_by : chosen (at (bump names hits)) (at counts) 0 names ≡ chosen (edges_to names) (at counts) 0 names
  chosen_by = chosen_cong (λ _. Unit {0}) (at (bump names hits)) (at counts) (edges_to names) (at counts) (λ x p. edges_counted x) (λ x p. refl) (λ b a p q. tt) 0 names tt (each_any names (λ x. tt))
