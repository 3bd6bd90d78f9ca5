-- What is found for a node, in any order of sorting: the node stamped by v + 1, no other node is.
use mathlib.Core.Path.{◌≡◌, refl, ap, sym, ◌∙◌}
use mathlib.Core.Bool.{Bool, true, false, not, ◌&&◌}
use mathlib.Core.List.{List, [], ◌∷◌}
use Prim.Native.Nat.{ℕ, zero, suc, ◌+◌, ◌≤◌, ◌<◌, ◌/◌}
use native.Mathlib.Omega.{arith}
use borrow.Author.Tests.{eq-eqb, ne_eqb, eqb-true, eqb-false}
use lib.Dec.{eqb, ltb}
use lib.ListN.{length, get_or, set, length-set}
use lib.Seq.{get_or-set_same, get_or-set_other}
use Rattle.definitions.specs.Lists.{up_to, any}
use Rattle.laws.proofs.Kept.{keep_length}
use Rattle.laws.proofs.Lists.{Each, none, more, each_head, each_tail, each_imp, each_by, each_map}
use Rattle.laws.specs.Bounds.{Below}
use Rattle.adjacency.specs.Order.{insert_by, sort_by, Weak}
use Rattle.adjacency.specs.Collect.{gather, marked, nodes_in, Inside, others}
use Rattle.adjacency.proofs.Laws.{by_case, insert_here, insert_on}
use Rattle.adjacency.proofs.Collecting.{gather_skips, gather_takes, gather_different, Different}
use Rattle.adjacency.proofs.Ascending.{asc, up_to_asc, fresh, keep_same, gather_sorted}
use Rattle.adjacency.proofs.Sorting.{sort_sort, Distinct}

-- ---- sorting

module _ {A : Type 0} (f g : A → A → Bool) (h : (x y : A) → f x y ≡ g x y) where
  insert_ext : (x : A) (l : List A) → insert_by f x l ≡ insert_by g x l
  unfolding insert_by
  insert_ext x [] = refl
  insert_ext x (y ∷ l) = by_case (g x y)
      (λ e. insert_here f x y l (h x y ∙ e) ∙ sym (insert_here g x y l e))
      (λ e. insert_on f x y l (h x y ∙ e) ∙ ap (λ m. y ∷ m) (insert_ext x l) ∙ sym (insert_on g x y l e))

  pub sort_ext : (l : List A) → sort_by f l ≡ sort_by g l
  unfolding sort_by
  sort_ext [] = refl
  sort_ext (x ∷ l) = insert_ext x (sort_by f l) ∙ ap (insert_by g x) (sort_ext l)

module _ {A : Type 0} (f : A → A → Bool) where
  length_insert : (x : A) (l : List A) → length (insert_by f x l) ≡ suc (length l)
  unfolding insert_by
  length_insert x [] = refl
  length_insert x (y ∷ l) = by_case (f x y)
      (λ e. ap length (insert_here f x y l e))
      (λ e. ap length (insert_on f x y l e) ∙ ap suc (length_insert x l))

  pub length_sort : (l : List A) → length (sort_by f l) ≡ length l
  unfolding sort_by
  length_sort [] = refl
  length_sort (x ∷ l) = length_insert x (sort_by f l) ∙ ap suc (length_sort l)

-- ---- lengths and bounds

module _ (s n : ℕ) where
  each_gather : (mark ws : List ℕ) → Each (λ x. x < n) ws → Each (λ x. x < n) (gather s mark ws)
  unfolding gather
  each_gather mark [] a = none
  each_gather mark (w ∷ ws) a = by_case (eqb (get_or mark w 0) s)
      (λ e. rw (gather_skips s mark w ws (eqb-true (get_or mark w 0) s e)) (each_gather mark ws (each_tail a)))
      (λ e. rw (gather_takes s mark w ws (eqb-false (get_or mark w 0) s e)) (more (each_head a) (each_gather (set mark w s) ws (each_tail a))))

pub gather_short : (s : ℕ) (mark ws : List ℕ) → length (gather s mark ws) ≤ length ws
unfolding gather
gather_short s mark [] = omega arith
gather_short s mark (w ∷ ws) = by_case (eqb (get_or mark w 0) s)
    (λ e. omega (arith, ap length (gather_skips s mark w ws (eqb-true (get_or mark w 0) s e)), gather_short s mark ws))
    (λ e. omega (arith, ap length (gather_takes s mark w ws (eqb-false (get_or mark w 0) s e)), gather_short s (set mark w s) ws))

length_asc : (m n : ℕ) → length (asc m n) ≡ n
unfolding asc
length_asc m zero = refl
length_asc m (suc n) = ap suc (length_asc (suc m) n)

pub below_set : (m : ℕ) (l : List ℕ) (i x : ℕ) → x < m → Below m l → Below m (set l i x)
below_set m l i x h b k q = by_case (eqb k i)
    (λ e. let z : k ≡ i = eqb-true k i e in rw (z, get_or-set_same l i x 0 (omega (arith, length-set l i x))) h)
    (λ e. rw (get_or-set_other l i k x 0 (eqb-false k i e)) (b k (omega (arith, length-set l i x))))

below_marked : (m s : ℕ) (mark ws : List ℕ) → s < m → Below m mark → Below m (marked s mark ws)
unfolding marked
below_marked m s mark [] h b = b
below_marked m s mark (w ∷ ws) h b = below_marked m s (set mark w s) ws h (below_set m mark w s h b)

pub length_marked : (s : ℕ) (mark ws : List ℕ) → length (marked s mark ws) ≡ length mark
unfolding marked
length_marked s mark [] = refl
length_marked s mark (w ∷ ws) = length_marked s (set mark w s) ws ∙ length-set mark w s

pub each_node : (n size : ℕ) (cols : List ℕ) → Inside n size cols → Each (λ x. x < n) (nodes_in size cols)
each_node n size cols i = each_map (λ c. c / size) (each_by cols 0 i)

-- ---- what is found

distinct : (f : ℕ → ℕ → Bool) (w : Weak f) → ((x y : ℕ) → (x ≡ y → ⊥) → (f x y ≡ true → f y x ≡ false) × (f x y ≡ false → f y x ≡ true)) → (l : List ℕ) → Different l → Distinct f w l
distinct f w h [] d = tt
distinct f w h (x ∷ l) d = (each_imp (λ y e. h x y e) d.0, distinct f w h l d.1)

module _ (n v : ℕ) (mark ws : List ℕ) (l : length mark ≡ n) (h : v < n) (b : Below (v + 1) mark) (a : Each (λ x. x < n) ws) where
  abbrev list : List ℕ
  list = gather (v + 1) (set mark v (v + 1)) ws

  stamped : (u : ℕ) → u < n → eqb (get_or (set mark v (v + 1)) u 0) (v + 1) ≡ eqb u v
  stamped u q = by_case (eqb u v)
      (λ e. let z : u ≡ v = eqb-true u v e in let i : v < length mark = omega (arith, l) in rw (z, get_or-set_same mark v (v + 1) 0 i) (eq-eqb (v + 1) (v + 1) refl ∙ sym (eq-eqb v v refl)))
      (λ e. rw (get_or-set_other mark v u (v + 1) 0 (eqb-false u v e), e) (ne_eqb (get_or mark u 0) (v + 1) (λ z. omega (arith, b u (omega (arith, l))))))

  by_number : sort_by ltb list ≡ others n v ws
  unfolding others
  by_number =
      gather_sorted (v + 1) n (set mark v (v + 1)) ws (length-set mark v (v + 1) ∙ l) a
      ∙ rw (up_to_asc n) (keep_same (fresh (v + 1) (set mark v (v + 1)) ws) (λ w. not (eqb w v) && any (λ x. eqb x w) ws) zero n (λ u x y. rw (stamped u (omega arith))))

  -- by number alone
  pub found_ascending : (f : ℕ → ℕ → Bool) → ((x y : ℕ) → f x y ≡ ltb x y) → sort_by f list ≡ others n v ws
  found_ascending f e = sort_ext f ltb e list ∙ by_number

  -- by any order that tells nodes apart
  pub found_sorted : (f : ℕ → ℕ → Bool) → Weak f → ((x y : ℕ) → (x ≡ y → ⊥) → (f x y ≡ true → f y x ≡ false) × (f x y ≡ false → f y x ≡ true)) → sort_by f list ≡ sort_by f (others n v ws)
  found_sorted f w p = sym (sort_sort f w ltb list (distinct f w p list (gather_different (v + 1) n (set mark v (v + 1)) ws (length-set mark v (v + 1) ∙ l) a))) ∙ ap (sort_by f) by_number

  pub found_count : length list ≡ length (others n v ws)
  found_count = sym (length_sort ltb list) ∙ ap length by_number

  pub found_short : length list ≤ n
  unfolding others
  found_short = omega (arith, found_count, keep_length (λ w. not (eqb w v) && any (λ x. eqb x w) ws) (up_to n), ap length (up_to_asc n), length_asc zero n)

  pub found_each : Each (λ x. x < n) list
  found_each = each_gather (v + 1) n (set mark v (v + 1)) ws a

  pub stamps_below : Below (v + 2) (marked (v + 1) (set mark v (v + 1)) ws)
  stamps_below = below_marked (v + 2) (v + 1) (set mark v (v + 1)) ws (omega arith) (below_set (v + 2) mark v (v + 1) (omega arith) (λ k q. omega (arith, b k q)))
