-- Growth stays on the side of the node that it starts from: it enters only nodes that the lists of nodes already entered name.
use mathlib.Core.Path.{◌≡◌, refl, sym, ap, ◌∙◌, subst}
use mathlib.Core.Logic.{◌⊎◌, inl, inr, ◌≢◌}
use mathlib.Core.Bool.{Bool, true, false, not, ◌&&◌}
use mathlib.Core.List.{List, [], ◌∷◌, ◌++◌}
use Prim.Native.Nat.{ℕ, zero, suc, ◌+◌, ◌≤◌, ◌<◌}
use native.Mathlib.Nat.{le_of_suc-le-suc, le_refl, eq-or-lt_of_le}
use native.Mathlib.Omega.{arith}
use lib.Dec.{T, eqb, eqb→eq, eqb_refl}
use lib.ListN.{length, get_or, set, length-set}
use lib.Seq.{get_or-set_same}
use Rattle.definitions.specs.Groups.{waiting, free, grow_group, grow_groups}
use Rattle.laws.proofs.Lists.{Each, none, more, each_head, each_tail, each_imp, each_append}
use Rattle.separation.proofs.Sides.{Sided, sided_set, positive_set, below_set}

module _ (lists : ℕ → List ℕ) (anchor : ℕ → Bool) (part : ℕ → Bool) (closed : (v : ℕ) → Each (λ w. part w ≡ part v) (lists v)) where
  waiting_each : {P : ℕ → Type 0} (ids queue : List ℕ) → Each P queue → Each P (waiting ids queue)
  unfolding waiting
  waiting_each ids [] h = none
  waiting_each {P} ids (v ∷ queue) h = go (eqb (get_or ids v 0) 0) (waiting_each ids queue (each_tail h))
    where
      go : (b : Bool) → Each P (waiting ids queue) → Each P (elim b [ true ↦ v ∷ queue | false ↦ waiting ids queue ])
      go true k = h
      go false k = k

  free_each : {P : ℕ → Type 0} (ids vs : List ℕ) → Each P vs → Each P (free lists anchor ids vs)
  unfolding free
  free_each ids [] h = none
  free_each {P} ids (v ∷ vs) h = go (not (anchor v) && eqb (get_or ids v 0) 0) (free_each ids vs (each_tail h))
    where
      go : (b : Bool) → Each P (free lists anchor ids vs) → Each P (elim b [ true ↦ v ∷ free lists anchor ids vs | false ↦ free lists anchor ids vs ])
      go true k = more (each_head h) k
      go false k = k

  -- what a store of g at every node of one side keeps, growth of the group g from that side keeps
  grow_inv : (Inv : List ℕ → Type 0) (g : ℕ) (s : Bool) → ((ids : List ℕ) (v : ℕ) → part v ≡ s → Inv ids → Inv (set ids v g))
      → (room : ℕ) (ids queue : List ℕ) → Inv ids → Each (λ w. part w ≡ s) queue → Inv (grow_group lists anchor g room ids queue)
  unfolding grow_group
  grow_inv Inv g s keeps zero ids queue h q = h
  grow_inv Inv g s keeps (suc room) ids queue h q = go (waiting ids queue) (waiting_each ids queue q) (λ i w. grow_inv Inv g s keeps room i w)
    where
      go : (w : List ℕ) → Each (λ x. part x ≡ s) w → ((i q : List ℕ) → Inv i → Each (λ x. part x ≡ s) q → Inv (grow_group lists anchor g room i q))
          → Inv (elim w [ [] ↦ ids | v ∷ rest ↦ grow_group lists anchor g room (set ids v g) (rest ++ free lists anchor (set ids v g) (lists v)) ])
      go [] e ih = h
      go (v ∷ rest) e ih =
          ih (set ids v g) (rest ++ free lists anchor (set ids v g) (lists v)) (keeps ids v (each_head e) h)
          (each_append (each_tail e) (free_each (set ids v g) (lists v) (each_imp (λ w k. k ∙ each_head e) (closed v))))

  -- growth takes in the node that it starts from
  grow_takes : (g room v : ℕ) (ids : List ℕ) → g ≢ 0 → v < length ids → T (eqb (get_or ids v 0) 0) → get_or (grow_group lists anchor g (suc room) ids (v ∷ [])) v 0 ≢ 0
  unfolding grow_group waiting
  grow_takes g room v ids p h t = go (eqb (get_or ids v 0) 0) t
    where
      go : (b : Bool) → T b
          → ◌≢◌ {A = ℕ} (get_or (elim (elim b as (λ x. List ℕ) [ true ↦ v ∷ [] | false ↦ waiting ids [] ]) as (λ x. List ℕ) [ [] ↦ ids | w ∷ rest ↦ grow_group lists anchor g room (set ids w g) (rest ++ free lists anchor (set ids w g) (lists w)) ]) v 0) 0
      go true k =
          grow_inv (λ i. get_or i v 0 ≢ 0) g (part v) (λ i w e n. positive_set i w g v p n) room (set ids v g) ([] ++ free lists anchor (set ids v g) (lists v))
          (λ z. p (sym (get_or-set_same ids v g 0 h) ∙ z)) (free_each (set ids v g) (lists v) (closed v))
      go false k = absurd k

  -- what holds with g groups so far, nodes below v done
  pub record Growing (n v g : ℕ) (ids : List ℕ) : Type 0 where
    pub side : ℕ → Bool
    pub sided : Sided part side ids
    pub under : (u : ℕ) → get_or ids u 0 ≤ g
    pub long : length ids ≡ n
    pub met : (u : ℕ) → u < v → get_or ids u 0 ≢ 0

  abbrev side_with : (ℕ → Bool) → ℕ → Bool → ℕ → Bool
  side_with side g s x = elim (eqb x g) [ true ↦ s | false ↦ side x ]

  side_with_new : (side : ℕ → Bool) (g : ℕ) (s : Bool) → side_with side g s g ≡ s
  side_with_new side g s = go (eqb g g) (eqb_refl g)
    where
      go : (b : Bool) → T b → ◌≡◌ {A = Bool} (elim b [ true ↦ s | false ↦ side g ]) s
      go true t = refl
      go false t = absurd t

  side_with_old : (side : ℕ → Bool) (g : ℕ) (s : Bool) (x : ℕ) → x ≢ g → side_with side g s x ≡ side x
  side_with_old side g s x ne = go (eqb x g) (eqb→eq x g)
    where
      go : (b : Bool) → (T b → x ≡ g) → ◌≡◌ {A = Bool} (elim b [ true ↦ s | false ↦ side x ]) (side x)
      go true f = absurd (ne (f tt))
      go false f = refl

  start_group : (n v g size : ℕ) (ids : List ℕ) → v < n → T (eqb (get_or ids v 0) 0) → Growing n v g ids
      → Growing n (suc v) (suc g) (elim (anchor v) [ true ↦ set ids v (suc g) | false ↦ grow_group lists anchor (suc g) (suc size) ids (v ∷ []) ])
  start_group n v g size ids h t G = go (anchor v)
    where
      new : ℕ → Bool
      new = side_with G.side (suc g) (part v)

      other : (x : ℕ) → x ≤ g → x ≢ suc g
      other x l e = omega arith

      up : (x : ℕ) → x ≤ g → x ≤ suc g
      up x l = omega arith

      positive : suc g ≢ 0
      positive e = omega arith

      keeps_sided : (i : List ℕ) (w : ℕ) → part w ≡ part v → Sided part new i → Sided part new (set i w (suc g))
      keeps_sided i w e S = sided_set part new i w (suc g) (e ∙ sym (side_with_new G.side (suc g) (part v))) S

      sided_now : Sided part new ids
      sided_now u ne = side_with_old G.side (suc g) (part v) (get_or ids u 0) (other (get_or ids u 0) (G.under u)) ∙ G.sided u ne

      long_v : v < length ids
      long_v = subst (λ (x : ℕ). v < x) (sym G.long) h

      queue : Each (λ w. part w ≡ part v) (v ∷ [])
      queue = more refl none

      met_with : (i : List ℕ) → ((u : ℕ) → get_or ids u 0 ≢ 0 → get_or i u 0 ≢ 0) → get_or i v 0 ≢ 0 → (u : ℕ) → u < suc v → get_or i u 0 ≢ 0
      met_with i k q u l = pick (eq-or-lt_of_le (le_of_suc-le-suc l))
        where
          pick : (u ≡ v) ⊎ (u < v) → get_or i u 0 ≢ 0
          pick (inl e) = λ z. q (ap (λ (x : ℕ). get_or i x 0) (sym e) ∙ z)
          pick (inr m) = k u (G.met u m)

      go : (b : Bool) → Growing n (suc v) (suc g) (elim b [ true ↦ set ids v (suc g) | false ↦ grow_group lists anchor (suc g) (suc size) ids (v ∷ []) ])
      go true = record {
        side = new;
        sided = keeps_sided ids v refl sided_now;
        under = λ u. below_set ids v (suc g) (suc g) u (le_refl (suc g)) (up (get_or ids u 0) (G.under u));
        long = length-set ids v (suc g) ∙ G.long;
        met = met_with (set ids v (suc g)) (λ u k. positive_set ids v (suc g) u positive k) (λ z. positive (sym (get_or-set_same ids v (suc g) 0 long_v) ∙ z));
      }
      go false = record {
        side = new;
        sided = grow_inv (Sided part new) (suc g) (part v) keeps_sided (suc size) ids (v ∷ []) sided_now queue;
        under = λ u. grow_inv (λ i. get_or i u 0 ≤ suc g) (suc g) (part v) (λ i w e l. below_set i w (suc g) (suc g) u (le_refl (suc g)) l) (suc size) ids (v ∷ []) (up (get_or ids u 0) (G.under u)) queue;
        long = grow_inv (λ i. length i ≡ n) (suc g) (part v) (λ i w e l. length-set i w (suc g) ∙ l) (suc size) ids (v ∷ []) G.long queue;
        met = met_with (grow_group lists anchor (suc g) (suc size) ids (v ∷ []))
            (λ u k. grow_inv (λ i. get_or i u 0 ≢ 0) (suc g) (part v) (λ i w e l. positive_set i w (suc g) u positive l) (suc size) ids (v ∷ []) k queue)
            (grow_takes (suc g) size v ids positive long_v t);
      }

  skip_group : (n v g : ℕ) (ids : List ℕ) → T (not (eqb (get_or ids v 0) 0)) → Growing n v g ids → Growing n (suc v) g ids
  skip_group n v g ids t G = record { side = G.side; sided = G.sided; under = G.under; long = G.long; met = λ u l. go u (eq-or-lt_of_le (le_of_suc-le-suc l)) }
    where
      go : (u : ℕ) → (u ≡ v) ⊎ (u < v) → get_or ids u 0 ≢ 0
      go u (inl e) = λ z. lib.Dec.T_not (eqb (get_or ids v 0) 0) t (subst (λ (x : ℕ). T (eqb x 0)) (sym (ap (λ (x : ℕ). get_or ids x 0) (sym e) ∙ z)) tt)
      go u (inr m) = G.met u m

  pub grow_from_inv : (n size left v g : ℕ) (ids : List ℕ) → v + left ≡ n → Growing n v g ids
      → Growing n n (grow_groups lists anchor (suc size) left v g ids).1 (grow_groups lists anchor (suc size) left v g ids).0
  unfolding grow_groups
  grow_from_inv n size zero v g ids e G = subst (λ (x : ℕ). Growing n x g ids) (flat v n e) G
    where
      flat : (x y : ℕ) → x + 0 ≡ y → x ≡ y
      flat x y u = omega arith
  grow_from_inv n size (suc left) v g ids e G = go (eqb (get_or ids v 0) 0) (λ t. t) (λ t. t) (λ k i. grow_from_inv n size left (suc v) k i)
    where
      at : (x y z : ℕ) → x + suc y ≡ z → suc x + y ≡ z
      at x y z u = omega arith

      room : (x y z : ℕ) → x + suc y ≡ z → x < z
      room x y z u = omega arith

      next : List ℕ
      next = elim (anchor v) [ true ↦ set ids v (suc g) | false ↦ grow_group lists anchor (suc g) (suc size) ids (v ∷ []) ]

      go : (b : Bool) → (T b → T (eqb (get_or ids v 0) 0)) → (T (not b) → T (not (eqb (get_or ids v 0) 0)))
          → ((k : ℕ) (i : List ℕ) → suc v + left ≡ n → Growing n (suc v) k i → Growing n n (grow_groups lists anchor (suc size) left (suc v) k i).1 (grow_groups lists anchor (suc size) left (suc v) k i).0)
          → Growing n n
          (elim b as (λ x. List ℕ × ℕ) [ true ↦ grow_groups lists anchor (suc size) left (suc v) (suc g) (elim (anchor v) [ true ↦ set ids v (suc g) | false ↦ grow_group lists anchor (suc g) (suc size) ids (v ∷ []) ]) | false ↦ grow_groups lists anchor (suc size) left (suc v) g ids ]).1
          (elim b as (λ x. List ℕ × ℕ) [ true ↦ grow_groups lists anchor (suc size) left (suc v) (suc g) (elim (anchor v) [ true ↦ set ids v (suc g) | false ↦ grow_group lists anchor (suc g) (suc size) ids (v ∷ []) ]) | false ↦ grow_groups lists anchor (suc size) left (suc v) g ids ]).0
      go true p q ih = ih (suc g) next (at v left n e) (start_group n v g size ids (room v left n e) (p tt) G)
      go false p q ih = ih g ids (at v left n e) (skip_group n v g ids (q tt) G)
