-- The accumulator of a row of A P: its stamps, the list of touched columns and the sums, one number more.
use Prim.Native.Nat.{ℕ, zero, suc, ◌+◌, ◌<◌}
use mathlib.Core.Path.{◌≡◌, refl, sym, ◌∙◌}
use mathlib.Core.Bool.{Bool, true, false}
use mathlib.Core.List.{List, [], ◌∷◌, ◌++◌, foldl-append, append-nil, append_assoc, map-append}
use native.Mathlib.Omega.{arith}
use native.Mathlib.Numerals.{add-one}
use native.Mathlib.Decide.{ℕ_discrete}
use denote.Ref.{Bor}
use lib.Dec.{eqb}
use lib.ListN.{length, get_or, set, take, length-set}
use lib.Seq.{get_or-set_same, get_or-set_other, take-suc-set}
use lib.Ieee.{Float, nan}
use borrow.Author.Tests.{eq-eqb, ne_eqb}
use Rattle.definitions.specs.Lists.{keep}
use Rattle.definitions.specs.Numbers.{◌+ᶠ◌, ◌*ᶠ◌, zeroᶠ, total}
use Rattle.definitions.specs.Matrix.{Entry}
use Rattle.csr32.proofs.Stored.{where_hit, where_miss, where_none, where_append}
use Rattle.laws.proofs.Growing.{flat_map_snoc}
use Rattle.laws.proofs.Kept.{keep_append}
use Rattle.laws.specs.Scatter.{put}
use Rattle.coarse_matrix.proofs.Passing.{passed, passed_more}
use Rattle.coarse_matrix.specs.Galerkin.{others, Room, Told, Seen, Put, mark, put_at, scaled, product_puts}

-- ---- the numbers put at a column, one entry more

module _ (es : List Entry) (k : ℕ) (x : Float) where
  put_hit : put_at k (es ++ (put k x ∷ [])) ≡ put_at k es ++ (x ∷ [])
  put_hit = where_append (λ n. eqb n k) es (put k x ∷ []) ∙ rw (where_hit (λ n. eqb n k) (put k x) [] (eq-eqb k k refl), where_none (λ n. eqb n k))

  put_miss : (j : ℕ) → (k ≡ j → ⊥) → put_at j (es ++ (put k x ∷ [])) ≡ put_at j es
  put_miss j h = where_append (λ n. eqb n j) es (put k x ∷ []) ∙ rw (where_miss (λ n. eqb n j) (put k x) [] (ne_eqb k j h), where_none (λ n. eqb n j), append-nil)

-- ---- lists of columns

keep_one : (j : ℕ) → keep (λ n. eqb n j) (j ∷ []) ≡ j ∷ []
unfolding keep
keep_one j = rw (eq-eqb j j refl, keep)

keep_other : (j k : ℕ) → (k ≡ j → ⊥) → keep (λ n. eqb n j) (k ∷ []) ≡ []
unfolding keep
keep_other j k h = rw (ne_eqb k j h, keep)

-- ---- how many stamps are missing

others_set : (token : ℕ) (l : List ℕ) (k : ℕ) → k < length l → (get_or l k 0 ≡ token → ⊥) → others token l ≡ suc (others token (set l k token))
unfolding others
others_set token [] k h n = absurd (omega arith)
others_set token (x ∷ l) zero h n = rw (ne_eqb x token n, eq-eqb token token refl, others)
others_set token (x ∷ l) (suc k) h n = step (eqb x token) refl (others_set token l k (omega arith) n)
  where
    step : (b : Bool) → eqb x token ≡ b → others token l ≡ suc (others token (set l k token)) → others token (x ∷ l) ≡ suc (others token (x ∷ set l k token))
    step true e ih = rw (e, others) ih
    step false e ih = rw (e, others) (rw ih)

pub others_all : (token : ℕ) (l : List ℕ) → ((j : ℕ) → j < length l → get_or l j 0 < token) → others token l ≡ length l
unfolding others
others_all token [] h = refl
others_all token (x ∷ l) h = rw (ne_eqb x token (λ e. let q = h zero (omega arith) in omega arith), others) (rw (others_all token l (λ j q. h (suc j) (omega arith))))

-- ---- one column more

module _ (token : ℕ) (stamps : List ℕ) (count k : ℕ) (r : Room token stamps count) (hk : k < length stamps) (n : get_or stamps k 0 ≡ token → ⊥) where
  -- where a stamp is missing there is a place
  pub place_left : count < length stamps
  place_left = omega (arith, r, others_set token stamps k hk n)

  room_more : Room token (set stamps k token) (count + 1)
  room_more = rw (length-set stamps k token) (omega (arith, r, others_set token stamps k hk n))

total_more : (ts : List Float) (x : Float) → total (ts ++ (x ∷ [])) ≡ total ts +ᶠ x
unfolding total
total_more ts x = rw (foldl-append (λ s y. s +ᶠ y) zeroᶠ ts (x ∷ []))

total_one : (x : Float) → total (x ∷ []) ≡ zeroᶠ +ᶠ x
unfolding total
total_one x = refl

-- the stamp was there
module _ (c token : ℕ) (stamps touched : List ℕ) (sums : List Float) (count k : ℕ) (x : Float) (es : List Entry) (hk : k < c) (big : length sums ≡ c)
    (s : Seen c token stamps touched sums count es) (st : get_or stamps k 0 ≡ token) where
  abbrev old : List Float
  old = set sums k (get_or sums k nan +ᶠ x)

  told_here : (ts : List Float) → Told token stamps sums k ts → Told token stamps old k (ts ++ (x ∷ []))
  told_here [] t = absurd (omega (arith, t, st))
  told_here (t ∷ ts) p = (p.0, get_or-set_same sums k (get_or sums k nan +ᶠ x) nan (omega arith) ∙ rw p.1 (sym (total_more (t ∷ ts) x)))

  told_there : (j : ℕ) → (j ≡ k → ⊥) → (ts : List Float) → Told token stamps sums j ts → Told token stamps old j ts
  told_there j n [] p = p
  told_there j n (t ∷ ts) p = (p.0, get_or-set_other sums k j (get_or sums k nan +ᶠ x) nan n ∙ p.1)

  once_here : (ts : List Float) → Told token stamps sums k ts → mark ts k ≡ mark (ts ++ (x ∷ [])) k
  unfolding mark
  once_here [] t = absurd (omega (arith, t, st))
  once_here (t ∷ ts) p = refl

  seen_again : Seen c token stamps touched old count (es ++ (put k x ∷ []))
  seen_again =
      record {
        told = λ j h. told j h (ℕ_discrete j k);
        once = λ j. once j (ℕ_discrete j k);
        below = s.below;
      }
    where
      told : (j : ℕ) → j < c → Dec (j ≡ k) → Told token stamps old j (put_at j (es ++ (put k x ∷ [])))
      told j h (yes e) = rw (e, put_hit es k x) (told_here (put_at k es) (s.told k hk))
      told j h (no n) = rw (put_miss es k x j (λ q. n (sym q))) (told_there j n (put_at j es) (s.told j h))

      once : (j : ℕ) → Dec (j ≡ k) → keep (λ n. eqb n j) (take count touched) ≡ mark (put_at j (es ++ (put k x ∷ []))) j
      once j (yes e) = rw (e, put_hit es k x) (s.once k ∙ once_here (put_at k es) (s.told k hk))
      once j (no n) = rw (put_miss es k x j (λ q. n (sym q))) (s.once j)

-- the stamp is new
module _ (c token : ℕ) (stamps touched : List ℕ) (sums : List Float) (count k : ℕ) (x : Float) (es : List Entry) (hk : k < c) (ls : length stamps ≡ c) (lt : length touched ≡ c) (lu : length sums ≡ c)
    (r : Room token stamps count) (s : Seen c token stamps touched sums count es) (st : get_or stamps k 0 ≡ token → ⊥) where
  abbrev cleared : List Float
  cleared = set sums k zeroᶠ

  abbrev new_sums : List Float
  new_sums = set cleared k (get_or cleared k nan +ᶠ x)

  hc : count < length touched
  hc = omega (arith, place_left token stamps count k r (omega arith) st)

  stamp_here : get_or (set stamps k token) k 0 ≡ token
  stamp_here = get_or-set_same stamps k token 0 (omega arith)

  sum_here : get_or new_sums k nan ≡ zeroᶠ +ᶠ x
  sum_here = get_or-set_same cleared k (get_or cleared k nan +ᶠ x) nan (simp length-set (omega arith)) ∙ rw (get_or-set_same sums k zeroᶠ nan (omega arith))

  sum_there : (p : ℕ) → (p ≡ k → ⊥) → get_or new_sums p nan ≡ get_or sums p nan
  sum_there p n = get_or-set_other cleared k p (get_or cleared k nan +ᶠ x) nan n ∙ get_or-set_other sums k p zeroᶠ nan n

  none_yet : (ts : List Float) → Told token stamps sums k ts → ts ≡ []
  none_yet [] t = refl
  none_yet (t ∷ ts) p = absurd (st p.0)

  told_new : (j : ℕ) → (j ≡ k → ⊥) → (ts : List Float) → Told token stamps sums j ts → Told token (set stamps k token) new_sums j ts
  told_new j n [] p = rw (get_or-set_other stamps k j token 0 n) p
  told_new j n (t ∷ ts) p = (get_or-set_other stamps k j token 0 n ∙ p.0, sum_there j n ∙ p.1)

  listed : take (count + 1) (set touched count k) ≡ take count touched ++ (k ∷ [])
  listed = rw add-one (take-suc-set touched count k hc)

  seen_new : Seen c token (set stamps k token) (set touched count k) new_sums (count + 1) (es ++ (put k x ∷ []))
  unfolding mark
  seen_new =
      record {
        told = λ j h. told j h (ℕ_discrete j k);
        once = λ j. rw listed (keep_append (λ n. eqb n j) (take count touched) (k ∷ []) ∙ once j (ℕ_discrete j k));
        below = λ t h. below t h (ℕ_discrete t count);
      }
    where
      none : put_at k es ≡ []
      none = none_yet (put_at k es) (s.told k hk)

      told : (j : ℕ) → j < c → Dec (j ≡ k) → Told token (set stamps k token) new_sums j (put_at j (es ++ (put k x ∷ [])))
      told j h (yes e) = rw (e, put_hit es k x, none) (stamp_here, sum_here ∙ sym (total_one x))
      told j h (no n) = rw (put_miss es k x j (λ q. n (sym q))) (told_new j n (put_at j es) (s.told j h))

      once : (j : ℕ) → Dec (j ≡ k) → keep (λ n. eqb n j) (take count touched) ++ keep (λ n. eqb n j) (k ∷ []) ≡ mark (put_at j (es ++ (put k x ∷ []))) j
      once j (yes e) = rw (e, put_hit es k x, s.once k, none, keep_one k)
      once j (no n) = rw (put_miss es k x j (λ q. n (sym q)), keep_other j k (λ q. n (sym q)), append-nil) (s.once j)

      below : (t : ℕ) → t < count + 1 → Dec (t ≡ count) → get_or (set touched count k) t 0 < c
      below t h (yes e) = rw (e, get_or-set_same touched count k 0 hc) hk
      below t h (no n) = rw (get_or-set_other touched count t k 0 n) (s.below t (omega arith))

-- from nothing put
pub put_none : (c token : ℕ) (stamps touched : List ℕ) (sums : List Float) (count : ℕ) → Room token stamps count → Put c token stamps touched sums count stamps touched sums count []
put_none c token stamps touched sums count r = record { room = r; seen = λ b s. rw append-nil s }

-- one entry
module _ (c token : ℕ) (stamps touched : List ℕ) (sums : List Float) (count k : ℕ) (x : Float) (hk : k < c) (r : Room token stamps count) where
  pub put_again : length sums ≡ c → get_or stamps k 0 ≡ token → Put c token stamps touched sums count stamps touched (set sums k (get_or sums k nan +ᶠ x)) count (put k x ∷ [])
  put_again lu e = record { room = r; seen = λ b s. seen_again c token stamps touched sums count k x b hk lu s e }

  pub put_new : length stamps ≡ c → length touched ≡ c → length sums ≡ c → (get_or stamps k 0 ≡ token → ⊥)
      → Put c token stamps touched sums count (set stamps k token) (set touched count k) (set (set sums k zeroᶠ) k (get_or (set sums k zeroᶠ) k nan +ᶠ x)) (count + 1) (put k x ∷ [])
  put_new ls lt lu n = record { room = room_more token stamps count k r (omega arith) n; seen = λ b s. seen_new c token stamps touched sums count k x b hk ls lt lu r s n }

-- one after the other
pub put_then : {c token : ℕ} {s₀ s₁ s₂ t₀ t₁ t₂ : List ℕ} {u₀ u₁ u₂ : List Float} {n₀ n₁ n₂ : ℕ} (es fs : List Entry)
    → Put c token s₀ t₀ u₀ n₀ s₁ t₁ u₁ n₁ es → Put c token s₁ t₁ u₁ n₁ s₂ t₂ u₂ n₂ fs → Put c token s₀ t₀ u₀ n₀ s₂ t₂ u₂ n₂ (es ++ fs)
put_then es fs p q = record { room = q.room; seen = λ b s. rw (← append_assoc b es fs) (q.seen (b ++ es) (p.seen b s)) }

-- ---- the steps of the loops that put

module _ {c token : ℕ} {s₀ s₁ s₂ t₀ t₁ t₂ : List ℕ} {u₀ u₁ u₂ : List Float} {n₀ n₁ n₂ : ℕ} (ps : List (Bor ℕ × Bor Float)) (p : Bor ℕ × Bor Float) where
  -- a weight of a transfer row more, times a value
  pub weights_more : (v : Float) → Put c token s₀ t₀ u₀ n₀ s₁ t₁ u₁ n₁ (scaled v (passed ps)) → Put c token s₁ t₁ u₁ n₁ s₂ t₂ u₂ n₂ (put p.0.now (v *ᶠ p.1.now) ∷ [])
      → Put c token s₀ t₀ u₀ n₀ s₂ t₂ u₂ n₂ (scaled v (passed (ps ++ (p ∷ []))))
  weights_more v a b =
      rw (passed_more ps p, map-append (λ u. put u.col (v *ᶠ u.value)) (passed ps) (put p.0.now p.1.now ∷ [])) (put_then (scaled v (passed ps)) (put p.0.now (v *ᶠ p.1.now) ∷ []) a b)

  -- an entry of the matrix more, times the weights of its column's transfer row
  pub entries_more : (transfer : ℕ → List Entry) → Put c token s₀ t₀ u₀ n₀ s₁ t₁ u₁ n₁ (product_puts transfer (passed ps)) → Put c token s₁ t₁ u₁ n₁ s₂ t₂ u₂ n₂ (scaled p.1.now (transfer p.0.now))
      → Put c token s₀ t₀ u₀ n₀ s₂ t₂ u₂ n₂ (product_puts transfer (passed (ps ++ (p ∷ []))))
  unfolding product_puts
  entries_more transfer a b =
      rw (passed_more ps p, flat_map_snoc (λ e. scaled e.value (transfer e.col)) (passed ps) (put p.0.now p.1.now)) (put_then (product_puts transfer (passed ps)) (scaled p.1.now (transfer p.0.now)) a b)
