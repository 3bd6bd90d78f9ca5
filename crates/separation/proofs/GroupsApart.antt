-- Groups respect an unconnected part: nodes with the same number are on the same side. Growth and joinings keep a side for each group, and new numbers keep groups different.
use mathlib.Core.Path.{◌≡◌, refl, sym, ap, ◌∙◌, subst}
use mathlib.Core.Logic.{◌≢◌}
use mathlib.Core.Bool.{Bool, true, false}
use mathlib.Core.List.{List, [], ◌∷◌}
use Prim.Native.Nat.{ℕ, zero, suc, ◌+◌, ◌≤◌, ◌<◌}
use native.Mathlib.Nat.{not-suc-le-zero, zero-lt-suc, zero-add, add-zero, add-suc, suc-add, le_refl}
use native.Mathlib.Omega.{arith}
use lib.Dec.{T, eqb, eqb→eq}
use lib.ListN.{length, get_or, replicate, length-replicate}
use Rattle.definitions.specs.Lists.{tab}
use Rattle.definitions.specs.Groups.{Groups, replay, floor_of, nodes_of, groups_of, grown, joinings, graph_grouping}
use Rattle.laws.proofs.Lists.{Each, none, more, up_lt, tab_reads}
use Rattle.separation.proofs.GrowthApart.{Growing, grow_from_inv}
use Rattle.separation.proofs.JoiningApart.{Joinable, joinings_inv}
use Rattle.laws.proofs.Renumbered.{renumbered_same}

get_d_zeros : (n u : ℕ) → ◌≡◌ {A = ℕ} (get_or (replicate n 0) u 0) 0
get_d_zeros zero u = refl
get_d_zeros (suc n) zero = refl
get_d_zeros (suc n) (suc u) = get_d_zeros n u

nodes_of_each : {P : ℕ → Type 0} (g v : ℕ) (xs : List ℕ) → ((i : ℕ) → i < length xs → get_or xs i 0 ≡ g → P (v + i)) → Each P (nodes_of g v xs)
unfolding nodes_of
nodes_of_each g v [] h = none
nodes_of_each {P} g v (x ∷ xs) h =
    go (eqb x g) (λ t. subst P (add-zero v) (h 0 (zero-lt-suc (length xs)) (eqb→eq x g t)))
    (nodes_of_each g (suc v) xs (λ i l e. subst P (add-suc v i ∙ sym (suc-add v i)) (h (suc i) (up_lt l) e)))
  where
    go : (b : Bool) → (T b → P v) → Each P (nodes_of g (suc v) xs) → Each P (elim b [ true ↦ v ∷ nodes_of g (suc v) xs | false ↦ nodes_of g (suc v) xs ])
    go true f k = more (f tt) k
    go false f k = k

module _ (lists : ℕ → List ℕ) (anchor : ℕ → Bool) (part : ℕ → Bool) (closed : (v : ℕ) → Each (λ w. part w ≡ part v) (lists v)) (n size : ℕ) where
  grown_inv : Growing lists anchor part closed n n (grown lists anchor n (suc size)).1 (grown lists anchor n (suc size)).0
  unfolding grown
  grown_inv = grow_from_inv lists anchor part closed n size n 0 0 (replicate n 0) (zero-add n)
      (record {
        side = λ x. false;
        sided = λ u ne. absurd (ne (get_d_zeros n u));
        under = λ u. subst (λ (x : ℕ). x ≤ 0) (sym (get_d_zeros n u)) (le_refl 0);
        long = length-replicate n 0;
        met = λ u l. absurd (low u l);
      })
    where
      low : (u : ℕ) → u < 0 → ⊥
      low u l = omega arith

  side : ℕ → Bool
  side = grown_inv.side

  -- the groups as grown, and after the joinings
  first : Groups
  first = groups_of (grown lists anchor n (suc size)).0 (grown lists anchor n (suc size)).1

  last : Groups
  last = replay (joinings lists anchor n (suc size)) first

  first_inv : Joinable lists anchor part closed side n first
  unfolding side first groups_of
  first_inv = record { sided = grown_inv.sided; long = grown_inv.long; met = grown_inv.met; members = members }
    where
      ids : List ℕ
      ids = (grown lists anchor n (suc size)).0

      members : (g : ℕ) → g ≢ 0 → Each (λ v. part v ≡ grown_inv.side g) (get_or (tab (λ k. nodes_of k 0 ids) (suc (grown lists anchor n (suc size)).1)) g [])
      members g ne =
          tab_reads (Each (λ v. part v ≡ grown_inv.side g)) (λ k. nodes_of k 0 ids) (suc (grown lists anchor n (suc size)).1) g []
          (λ b. nodes_of_each g 0 ids (λ i l e. ap part (zero-add i) ∙ sym (grown_inv.sided i (λ z. ne (sym e ∙ z))) ∙ ap grown_inv.side e)) none

  last_inv : Joinable lists anchor part closed side n last
  unfolding last joinings first
  last_inv =
      let count = (grown lists anchor n (suc size)).1 in
      joinings_inv lists anchor part closed side n (floor_of (suc size)) count (suc count) first first_inv

  apart_at_lem : (u v : ℕ) → u < n → v < n → get_or (graph_grouping lists anchor n (suc size)).ids u 0 ≡ get_or (graph_grouping lists anchor n (suc size)).ids v 0 → part u ≡ part v
  unfolding graph_grouping last first
  apart_at_lem u v h g e =
      let long : length last.of ≡ n = last_inv.long in
      let same = renumbered_same last.of u v (subst (λ (x : ℕ). u < x) (sym long) h) (subst (λ (x : ℕ). v < x) (sym long) g) e in
      sym (last_inv.sided u (last_inv.met u h)) ∙ ap side same ∙ last_inv.sided v (last_inv.met v g)

-- ---- for every group size but 0

module _ (lists : ℕ → List ℕ) (anchor : ℕ → Bool) (n : ℕ) where
  -- NODES WITH THE SAME NUMBER ARE ON THE SAME SIDE of every part that the lists do not leave
  pub groups_apart : (part : ℕ → Bool) → ((v : ℕ) → Each (λ w. part w ≡ part v) (lists v)) → (size : ℕ) → 1 ≤ size
      → (u v : ℕ) → u < n → v < n → get_or (graph_grouping lists anchor n size).ids u 0 ≡ get_or (graph_grouping lists anchor n size).ids v 0 → part u ≡ part v
  groups_apart part closed zero h = absurd (not-suc-le-zero h)
  groups_apart part closed (suc size) h = apart_at_lem lists anchor part closed n size
