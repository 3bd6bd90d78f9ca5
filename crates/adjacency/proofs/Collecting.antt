-- Collecting, step by step.
use mathlib.Core.Path.{◌≡◌, refl, ap, sym, ◌∙◌}
use mathlib.Core.List.{List, [], ◌∷◌, ◌++◌, append-nil}
use Prim.Native.Nat.{ℕ, ◌+◌, ◌≤◌, ◌<◌, ◌/◌}
use native.Mathlib.Omega.{arith}
use native.Mathlib.Numerals.{add-one}
use borrow.Author.Tests.{eq-eqb, ne_eqb, eqb-true, eqb-false}
use lib.Dec.{eqb}
use lib.ListN.{length, get_or, set, take, drop, length-set, drop_of_length-le}
use lib.Seq.{drop-cons, length-take-le, take-suc-set, append_snoc, set-get_or, get_or-set_same, get_or-set_other}
use Rattle.laws.proofs.Lists.{Each, none, more, each_head, each_tail, each_imp}
use Rattle.adjacency.specs.Collect.{gather, marked, nodes_in}
use Rattle.adjacency.proofs.Laws.{by_case}

pub gather_skips : (s : ℕ) (mark : List ℕ) (w : ℕ) (ws : List ℕ) → get_or mark w 0 ≡ s → gather s mark (w ∷ ws) ≡ gather s mark ws
unfolding gather
gather_skips s mark w ws e = rw (gather, eq-eqb (get_or mark w 0) s e)

pub gather_takes : (s : ℕ) (mark : List ℕ) (w : ℕ) (ws : List ℕ) → (get_or mark w 0 ≡ s → ⊥) → gather s mark (w ∷ ws) ≡ w ∷ gather s (set mark w s) ws
unfolding gather
gather_takes s mark w ws e = rw (gather, ne_eqb (get_or mark w 0) s e)

marked_on : (s : ℕ) (mark : List ℕ) (w : ℕ) (ws : List ℕ) → marked s mark (w ∷ ws) ≡ marked s (set mark w s) ws
unfolding marked
marked_on s mark w ws = refl

marked_same : (s : ℕ) (mark : List ℕ) (w : ℕ) (ws : List ℕ) → get_or mark w 0 ≡ s → marked s mark (w ∷ ws) ≡ marked s mark ws
marked_same s mark w ws e = marked_on s mark w ws ∙ ap (λ m. marked s m ws) (ap (set mark w) (sym e) ∙ set-get_or mark w 0)

pub record Collected (cols mark₀ : List ℕ) (size stamp : ℕ) (mark names : List ℕ) (count k : ℕ) : Type 0 where
  pub used : count ≤ k
  pub list : take count names ++ gather stamp mark (nodes_in size (drop k cols)) ≡ gather stamp mark₀ (nodes_in size cols)
  pub stamps : marked stamp mark (nodes_in size (drop k cols)) ≡ marked stamp mark₀ (nodes_in size cols)

module _ {cols mark₀ : List ℕ} {size stamp : ℕ} {mark names : List ℕ} {count k : ℕ} (v : Collected cols mark₀ size stamp mark names count k) (h : k < length cols) where
  next : nodes_in size (drop k cols) ≡ get_or cols k 0 / size ∷ nodes_in size (drop (k + 1) cols)
  next = rw (add-one, drop-cons cols k 0 h)

  pub collect_skip : (w : ℕ) → w ≡ get_or cols k 0 / size → get_or mark w 0 ≡ stamp → Collected cols mark₀ size stamp mark names count (k + 1)
  collect_skip w q e =
      let ws = nodes_in size (drop (k + 1) cols) in
      let n : nodes_in size (drop k cols) ≡ w ∷ ws = rw q next in
      record {
        used = omega (arith, v.used);
        list = ap (λ l. take count names ++ l) (sym (ap (gather stamp mark) n ∙ gather_skips stamp mark w ws e)) ∙ v.list;
        stamps = sym (ap (marked stamp mark) n ∙ marked_same stamp mark w ws e) ∙ v.stamps;
      }

  pub collect_take : (w : ℕ) → w ≡ get_or cols k 0 / size → (get_or mark w 0 ≡ stamp → ⊥) → count < length names → Collected cols mark₀ size stamp (set mark w stamp) (set names count w) (count + 1) (k + 1)
  collect_take w q e p =
      let ws = nodes_in size (drop (k + 1) cols) in
      let n : nodes_in size (drop k cols) ≡ w ∷ ws = rw q next in
      let g : gather stamp mark (nodes_in size (drop k cols)) ≡ w ∷ gather stamp (set mark w stamp) ws = ap (gather stamp mark) n ∙ gather_takes stamp mark w ws e in
      record {
        used = omega (arith, v.used);
        list = rw (add-one count, take-suc-set names count w p) (append_snoc (take count names) w (gather stamp (set mark w stamp) ws) ∙ rw g at v.list);
        stamps = sym (ap (marked stamp mark) n ∙ marked_on stamp mark w ws) ∙ v.stamps;
      }

module _ {cols mark₀ : List ℕ} {size stamp : ℕ} {mark names : List ℕ} {count k : ℕ} (v : Collected cols mark₀ size stamp mark names count k) (h : length cols ≤ k) where
  nothing : nodes_in size (drop k cols) ≡ []
  nothing = rw (drop_of_length-le cols h)

  pub collected_names : take count names ≡ gather stamp mark₀ (nodes_in size cols)
  unfolding gather
  collected_names = sym (append-nil (take count names)) ∙ rw nothing at v.list

  pub collected_stamps : mark ≡ marked stamp mark₀ (nodes_in size cols)
  unfolding marked
  collected_stamps = rw nothing at v.stamps

  pub collected_count : count ≤ length names → count ≡ length (gather stamp mark₀ (nodes_in size cols))
  collected_count l = omega (arith, ap length collected_names, length-take-le count names l)

-- ---- what is collected bears no stamp before, and is listed once

abbrev pub Different : List ℕ → Type 0
Different [] = Unit {0}
Different (x ∷ xs) = Each (λ y. x ≡ y → ⊥) xs × Different xs

module _ (s : ℕ) where
  unstamped : (mark ws : List ℕ) → Each (λ u. get_or mark u 0 ≡ s → ⊥) (gather s mark ws)
  unfolding gather
  unstamped mark [] = none
  unstamped mark (w ∷ ws) = by_case (eqb (get_or mark w 0) s)
      (λ e. rw (gather_skips s mark w ws (eqb-true (get_or mark w 0) s e)) (unstamped mark ws))
      (λ e. let z = eqb-false (get_or mark w 0) s e in
      rw (gather_takes s mark w ws z) (more z (each_imp (λ u h. by_case (eqb u w)
      (λ f. λ q. z (ap (λ t. get_or mark t 0) (sym (eqb-true u w f)) ∙ q))
      (λ f. λ q. h (get_or-set_other mark w u s 0 (eqb-false u w f) ∙ q))) (unstamped (set mark w s) ws))))

  pub gather_different : (n : ℕ) (mark ws : List ℕ) → length mark ≡ n → Each (λ x. x < n) ws → Different (gather s mark ws)
  unfolding gather
  gather_different n mark [] l a = tt
  gather_different n mark (w ∷ ws) l a = by_case (eqb (get_or mark w 0) s)
      (λ e. rw (gather_skips s mark w ws (eqb-true (get_or mark w 0) s e)) (gather_different n mark ws l (each_tail a)))
      (λ e. let z = eqb-false (get_or mark w 0) s e in
      let i : w < length mark = omega (arith, each_head a, l) in
      rw (gather_takes s mark w ws z) (
        each_imp (λ u h q. h (rw (← q) (get_or-set_same mark w s 0 i))) (unstamped (set mark w s) ws),
        gather_different n (set mark w s) ws (length-set mark w s ∙ l) (each_tail a),
      ))
