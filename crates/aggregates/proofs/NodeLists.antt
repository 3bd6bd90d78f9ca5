-- Lists of nodes: what holds of every element, and the entries of the lists of different nodes, which together are at most all.
use Rattle.std.proofs.lemmas.List.{drop-take}
use mathlib.Core.Path.{◌≡◌, ap, sym, ◌∙◌}
use mathlib.Core.List.{List, [], ◌∷◌, ◌++◌}
use Prim.Native.Nat.{ℕ, zero, suc, ◌+◌, ◌-◌, ◌≤◌, ◌<◌}
use native.Mathlib.Omega.{arith}
use lib.ListN.{length, get_or, set, take, drop}
use lib.Seq.{slice, length-slice, get_or-drop, get_or-take}
use Rattle.laws.proofs.Lists.{Each, each_head, each_right, each_by}
use Rattle.aggregates.specs.Lists.{Lists}

-- the entries of the lists of the nodes that are marked 0
unfoldable pub spare : (ℕ → ℕ) → ℕ → List ℕ → ℕ
spare d v [] = 0
spare d v (zero ∷ xs) = d v + spare d (suc v) xs
spare d v (suc x ∷ xs) = spare d (suc v) xs

pub spare_set : (d : ℕ → ℕ) (v : ℕ) (xs : List ℕ) (i g : ℕ) → i < length xs → get_or xs i 0 ≡ 0 → 0 < g → spare d v (set xs i g) + d (v + i) ≡ spare d v xs
unfolding spare
spare_set d v [] i g h z p = omega arith
spare_set d v (zero ∷ xs) zero zero h z p = omega arith
spare_set d v (zero ∷ xs) zero (suc g) h z p = let e : v + 0 ≡ v = omega arith in rw e (omega arith)
spare_set d v (suc x ∷ xs) zero g h z p = omega arith
spare_set d v (zero ∷ xs) (suc i) g h z p = let e : v + suc i ≡ suc v + i = omega arith in rw e (omega (arith, spare_set d (suc v) xs i g (omega arith) z p))
spare_set d v (suc x ∷ xs) (suc i) g h z p = let e : v + suc i ≡ suc v + i = omega arith in rw e (spare_set d (suc v) xs i g (omega arith) z p)

-- how much node v lists
abbrev pub degree : List ℕ → ℕ → ℕ
degree offsets v = get_or offsets (suc v) 0 - get_or offsets v 0

spare_from : (offsets : List ℕ) (v : ℕ) (xs : List ℕ) → ((u : ℕ) → u < v + length xs → get_or offsets u 0 ≤ get_or offsets (suc u) 0) → spare (degree offsets) v xs + get_or offsets v 0 ≤ get_or offsets (v + length xs) 0
unfolding spare
spare_from offsets v [] r = let e : v + 0 ≡ v = omega arith in rw e (omega arith)
spare_from offsets v (zero ∷ xs) r =
    let e : v + suc (length xs) ≡ suc v + length xs = omega arith in
    rw e (omega (arith, spare_from offsets (suc v) xs (λ u h. r u (omega arith)), r v (omega arith)))
spare_from offsets v (suc x ∷ xs) r =
    let e : v + suc (length xs) ≡ suc v + length xs = omega arith in
    rw e (omega (arith, spare_from offsets (suc v) xs (λ u h. r u (omega arith)), r v (omega arith)))

module _ (n : ℕ) (offsets nb : List ℕ) (ok : Lists n offsets nb) where
  rise : (v k : ℕ) → v + k ≤ n → get_or offsets v 0 ≤ get_or offsets (v + k) 0
  rise v zero h = let e : v + 0 ≡ v = omega arith in rw e (omega arith)
  rise v (suc k) h = let e : v + suc k ≡ suc (v + k) = omega arith in rw e (omega (arith, rise v k (omega arith), ok.rises (v + k) (omega arith)))

  pub offset_within : (v : ℕ) → v ≤ n → get_or offsets v 0 ≤ length nb
  offset_within v h =
      let e : v + (n - v) ≡ n = omega arith in
      omega (arith, rw e at (rise v (n - v) (omega arith)), ok.ends)

  -- the lists of marked nodes are part of all lists
  pub spare_within : (ids : List ℕ) → length ids ≡ n → spare (degree offsets) 0 ids ≤ length nb
  spare_within ids e =
      let e' : 0 + length ids ≡ n = omega arith in
      omega (arith, ok.ends, rw e' at (spare_from offsets 0 ids (λ u h. ok.rises u (omega arith))))

-- the last of a list
pub each_last : {P : ℕ → Type 0} (l : List ℕ) {x : ℕ} → Each P (l ++ (x ∷ [])) → P x
each_last l a = each_head (each_right l a)

-- the elements of a part of a list, by their places in the whole
pub each_part : (P : ℕ → Type 0) (f t : ℕ) (nb : List ℕ) → t ≤ length nb → ((k : ℕ) → k < length nb → P (get_or nb k 0)) → Each P (slice f t nb)
each_part P f t nb h b = each_by (slice f t nb) 0 (λ k l.
    let m : f + k < t = omega (arith, length-slice f t nb h) in
    rw (get_or-drop f (take t nb) k 0, get_or-take t nb (f + k) 0 m) (b (f + k) (omega arith)))

-- a part of a list, cut in either order
pub part_is : (f t : ℕ) (l : List ℕ) → f ≤ t → take (t - f) (drop f l) ≡ slice f t l
part_is f t l h = let e : f + (t - f) ≡ t = omega arith in sym (drop-take f (t - f) l) ∙ ap (λ m. slice f m l) e
