-- A joining stays on one side: a group joins only one that the lists of its own nodes name, and each of those is on the group's side.
use mathlib.Core.Path.{◌≡◌, refl, sym, ap, ◌∙◌, subst}
use mathlib.Core.Logic.{◌⊎◌, inl, inr, ◌≢◌}
use mathlib.Core.Bool.{Bool, true, false, ◌&&◌, ◌||◌}
use mathlib.Core.List.{List, [], ◌∷◌, ◌++◌}
use Prim.Native.Nat.{ℕ, zero, suc, ◌<◌}
use native.Mathlib.Omega.{arith}
use lib.Dec.{eqb, ltb}
use lib.ListN.{length, get_or, set, length-set}
use Rattle.definitions.specs.Groups.{Joining, Groups, nodes_in, size_in, relabelled, joined, replay, edges_to, before, chosen, other_groups, named_groups, taker_of, round_from, joinings_from}
use Rattle.laws.proofs.Lists.{Each, none, more, each_head, each_tail, each_imp, each_append}
use Rattle.separation.proofs.Sides.{set_read, Sided, sided_set, positive_set}

module _ (lists : ℕ → List ℕ) (anchor : ℕ → Bool) (part : ℕ → Bool) (closed : (v : ℕ) → Each (λ w. part w ≡ part v) (lists v)) where
  module _ (side : ℕ → Bool) where
    pub record Joinable (n : ℕ) (s : Groups) : Type 0 where
      pub sided : Sided part side s.of
      pub long : length s.of ≡ n
      pub met : (u : ℕ) → u < n → get_or s.of u 0 ≢ 0
      pub members : (g : ℕ) → g ≢ 0 → Each (λ v. part v ≡ side g) (nodes_in s g)

    relabelled_inv : (Inv : List ℕ → Type 0) (b : ℕ) → ((ids : List ℕ) (v : ℕ) → part v ≡ side b → Inv ids → Inv (set ids v b))
        → (vs ids : List ℕ) → Each (λ v. part v ≡ side b) vs → Inv ids → Inv (relabelled b vs ids)
    unfolding relabelled
    relabelled_inv Inv b keeps [] ids q h = h
    relabelled_inv Inv b keeps (v ∷ vs) ids q h = relabelled_inv Inv b keeps vs (set ids v b) (each_tail q) (keeps ids v (each_head q) h)

    joined_inv : (n : ℕ) (j : Joining) (s : Groups) → j.moved ≢ 0 → j.taker ≢ 0 → side j.taker ≡ side j.moved → Joinable n s → Joinable n (joined j s)
    unfolding joined
    joined_inv n j s m t e K = record {
      sided = relabelled_inv (Sided part side) j.taker (λ i v p S. sided_set part side i v j.taker p S) (nodes_in s j.moved) s.of come K.sided;
      long = relabelled_inv (λ i. length i ≡ n) j.taker (λ i v p l. length-set i v j.taker ∙ l) (nodes_in s j.moved) s.of come K.long;
      met = λ u l. relabelled_inv (λ i. get_or i u 0 ≢ 0) j.taker (λ i v p k. positive_set i v j.taker u t k) (nodes_in s j.moved) s.of come (K.met u l);
      members = λ g ne. outer g ne (set_read (set s.members j.taker (nodes_in s j.moved ++ nodes_in s j.taker)) j.moved [] g []);
    }
      where
        come : Each (λ v. part v ≡ side j.taker) (nodes_in s j.moved)
        come = each_imp (λ v k. k ∙ sym e) (K.members j.moved m)

        held : List (List ℕ)
        held = set s.members j.taker (nodes_in s j.moved ++ nodes_in s j.taker)

        inner : (g : ℕ) → g ≢ 0 → (get_or held g [] ≡ get_or s.members g []) ⊎ ((g ≡ j.taker) × (get_or held g [] ≡ nodes_in s j.moved ++ nodes_in s j.taker))
            → Each (λ v. part v ≡ side g) (get_or held g [])
        inner g ne (inl k) = subst (Each (λ v. part v ≡ side g)) (sym k) (K.members g ne)
        inner g ne (inr k) =
            subst (Each (λ v. part v ≡ side g)) (sym k.1)
            (each_imp (λ v p. p ∙ ap side (sym k.0)) (each_append come (K.members j.taker t)))

        outer : (g : ℕ) → g ≢ 0 → (get_or (set held j.moved []) g [] ≡ get_or held g []) ⊎ ((g ≡ j.moved) × (get_or (set held j.moved []) g [] ≡ []))
            → Each (λ v. part v ≡ side g) (get_or (set held j.moved []) g [])
        outer g ne (inl k) = subst (Each (λ v. part v ≡ side g)) (sym k) (inner g ne (set_read s.members j.taker (nodes_in s j.moved ++ nodes_in s j.taker) g []))
        outer g ne (inr k) = subst (Each (λ v. part v ≡ side g)) (sym k.1) none

    -- a group that a list names, if it is one, has the side of the group whose list it is
    abbrev Beside : ℕ → ℕ → Type 0
    Beside g o = o ≢ 0 → side o ≡ side g

    others_beside : (g : ℕ) (s : Groups) (ws : List ℕ) → Sided part side s.of → Each (λ w. part w ≡ side g) ws → Each (Beside g) (other_groups lists anchor g s ws)
    unfolding other_groups
    others_beside g s [] S h = none
    others_beside g s (w ∷ ws) S h = go (anchor w || eqb (get_or s.of w 0) g || eqb (size_in s (get_or s.of w 0)) 0) (others_beside g s ws S (each_tail h))
      where
        go : (b : Bool) → Each (Beside g) (other_groups lists anchor g s ws)
            → Each (Beside g) (elim b [ true ↦ other_groups lists anchor g s ws | false ↦ get_or s.of w 0 ∷ other_groups lists anchor g s ws ])
        go true k = k
        go false k = more (λ ne. S w ne ∙ each_head h) k

    named_beside : (g : ℕ) (s : Groups) (vs : List ℕ) → Sided part side s.of → Each (λ v. part v ≡ side g) vs → Each (Beside g) (named_groups lists anchor g s vs)
    unfolding named_groups
    named_beside g s [] S h = none
    named_beside g s (v ∷ vs) S h = go (anchor v) (named_beside g s vs S (each_tail h))
      where
        go : (b : Bool) → Each (Beside g) (named_groups lists anchor g s vs)
            → Each (Beside g) (elim b [ true ↦ named_groups lists anchor g s vs | false ↦ other_groups lists anchor g s (lists v) ++ named_groups lists anchor g s vs ])
        go true k = k
        go false k = each_append (others_beside g s (lists v) S (each_imp (λ w e. e ∙ each_head h) (closed v))) k

    chosen_beside : (edges sizes : ℕ → ℕ) (g best : ℕ) (names : List ℕ) → Beside g best → Each (Beside g) names → Beside g (chosen edges sizes best names)
    unfolding chosen
    chosen_beside edges sizes g best [] h k = h
    chosen_beside edges sizes g best (a ∷ rest) h k = chosen_beside edges sizes g (elim (eqb best 0 || before edges sizes a best) [ true ↦ a | false ↦ best ]) rest (go (eqb best 0 || before edges sizes a best)) (each_tail k)
      where
        go : (b : Bool) → Beside g (elim b [ true ↦ a | false ↦ best ])
        go true = each_head k
        go false = h

    taker_beside : (floor n g : ℕ) (s : Groups) → g ≢ 0 → Joinable n s → Beside g (taker_of lists anchor floor s g)
    unfolding taker_of
    taker_beside floor n g s ne K = go (ltb 0 (size_in s g) && ltb (size_in s g) floor)
      where
        go : (b : Bool) → Beside g (elim b [ true ↦ (let names = named_groups lists anchor g s (nodes_in s g) in chosen (edges_to names) (size_in s) 0 names) | false ↦ 0 ])
        go true = let names = named_groups lists anchor g s (nodes_in s g) in chosen_beside (edges_to names) (size_in s) g 0 names (λ z. absurd (z refl)) (named_beside g s (nodes_in s g) K.sided (K.members g ne))
        go false = λ z. absurd (z refl)

    round_inv : (n floor left g : ℕ) (s : Groups) → g ≢ 0 → Joinable n s → Joinable n (replay (round_from lists anchor floor left g s) s)
    unfolding round_from replay
    round_inv n floor zero g s ne K = K
    round_inv n floor (suc left) g s ne K = go (taker_of lists anchor floor s g) (taker_beside floor n g s ne K) (λ x. round_inv n floor left (suc g) x)
      where
        positive : (x : ℕ) → suc x ≢ 0
        positive x e = omega arith

        go : (t : ℕ) → Beside g t → ((x : Groups) → suc g ≢ 0 → Joinable n x → Joinable n (replay (round_from lists anchor floor left (suc g) x) x))
            → Joinable n (replay (elim t as (λ x. List Joining) [ zero ↦ round_from lists anchor floor left (suc g) s | suc b ↦ (let j : Joining = record { moved = g; taker = suc b } in j ∷ round_from lists anchor floor left (suc g) (joined j s)) ]) s)
        go zero f ih = ih s (positive g) K
        go (suc b) f ih =
            let j : Joining = record { moved = g; taker = suc b } in
            ih (joined j s) (positive g) (joined_inv n j s ne (positive b) (f (positive b)) K)

    replay_append : (js ks : List Joining) (s : Groups) → replay (js ++ ks) s ≡ replay ks (replay js s)
    unfolding replay
    replay_append [] ks s = refl
    replay_append (j ∷ js) ks s = replay_append js ks (joined j s)

    pub joinings_inv : (n floor count fuel : ℕ) (s : Groups) → Joinable n s → Joinable n (replay (joinings_from lists anchor floor count fuel s) s)
    unfolding joinings_from replay
    joinings_inv n floor count zero s K = K
    joinings_inv n floor count (suc fuel) s K = go (round_from lists anchor floor count 1 s) (round_inv n floor count 1 s one K) (λ x. joinings_inv n floor count fuel x)
      where
        one : ◌≢◌ {A = ℕ} 1 0
        one e = omega arith

        go : (js : List Joining) → Joinable n (replay js s) → ((x : Groups) → Joinable n x → Joinable n (replay (joinings_from lists anchor floor count fuel x) x))
            → Joinable n (replay (elim js as (λ x. List Joining) [ [] ↦ [] | j ∷ ks ↦ (j ∷ ks) ++ joinings_from lists anchor floor count fuel (replay (j ∷ ks) s) ]) s)
        go [] k ih = k
        go (j ∷ js) k ih = subst (Joinable n) (sym (replay_append (j ∷ js) (joinings_from lists anchor floor count fuel (replay (j ∷ js) s)) s)) (ih (replay (j ∷ js) s) k)
