-- A part of a list to which another list is added: one put after the other.
use Prim.Native.Nat.{ℕ, zero, suc, ◌+◌, ◌<◌, ◌≤◌}
use mathlib.Core.Path.{◌≡◌, ap, sym, ◌∙◌}
use mathlib.Core.List.{List}
use native.Mathlib.Omega.{arith}
use lib.ListN.{length, get_or, take, drop, length-drop}
use lib.Seq.{paste, paste-zero, paste-suc, drop-paste, get_or-drop, get_or-take, length-take-le}
use lib.Ieee.{Float, nan}
use borrow.Rule.Slice.PartMut.{put_mid}
use Rattle.std.proofs.lemmas.Slice.{put_mid-paste}
use Rattle.definitions.specs.Lists.{tab}
use Rattle.definitions.specs.Numbers.{◌+ᶠ◌}
use Rattle.laws.specs.Scatter.{scatter, scattered}
use Rattle.laws.proofs.Lists.{length_tab, get_d_tab, tab_cong}
use Rattle.two_level_apply.specs.Scatter.{part_puts}

-- a part lent by its start and its length
pub length_part : (l : List Float) (a n m : ℕ) → n ≡ m → a + m ≤ length l → length (take n (drop a l)) ≡ m
length_part l a n m e h = rw e (length-take-le m (drop a l) (rw (length-drop a l) (omega arith)))

module _ (from l : List Float) (a b n : ℕ) (h : b + n ≤ length l) where
  abbrev sums : List Float
  sums = tab (λ k. get_or l (b + k) nan +ᶠ get_or from (a + k) nan) n

  long : length sums ≡ n
  long = length_tab (λ k. get_or l (b + k) nan +ᶠ get_or from (a + k) nan) n

  ahead : (k : ℕ) → k < n → get_or (paste l b sums k) (b + k) nan ≡ get_or l (b + k) nan
  ahead k q =
      let z : b + k + 0 ≡ b + k = omega arith in
      rw z at (sym (get_or-drop (b + k) (paste l b sums k) 0 nan) ∙ ap (λ t. get_or t 0 nan) (drop-paste l b sums k (omega arith) (rw long (omega arith))) ∙ get_or-drop (b + k) l 0 nan)

  so_far : (k : ℕ) → k ≤ n → scattered (part_puts from a b) k l ≡ paste l b sums k
  unfolding scattered scatter
  so_far zero q = paste-zero l b sums
  so_far (suc k) q =
      let v : get_or sums k nan ≡ get_or l (b + k) nan +ᶠ get_or from (a + k) nan = get_d_tab (λ k. get_or l (b + k) nan +ᶠ get_or from (a + k) nan) n k nan q in
      rw (so_far k (omega arith), ahead k q, ← v) (paste-suc l b sums k nan (omega arith) (rw long q))

  -- m numbers of the part, and u of the list that is added to it
  pub part_added : (m u v : ℕ) (ys : List Float) → m ≡ n → u ≡ n → v ≡ n → ys ≡ tab (λ k. get_or (take m (drop b l)) k nan +ᶠ get_or (take u (drop a from)) k nan) v
      → put_mid b m l ys ≡ scattered (part_puts from a b) n l
  part_added m u v ys em eu ev ey = put_mid-paste b m l ys sums n here (sym em) (sym long) ∙ sym (so_far n (omega arith))
    where
      here : ys ≡ sums
      here = ey ∙ rw ev (tab_cong (λ k. get_or (take m (drop b l)) k nan +ᶠ get_or (take u (drop a from)) k nan) (λ k. get_or l (b + k) nan +ᶠ get_or from (a + k) nan) n
          (λ k q.
          let p : k < m = omega arith in
          let r : k < u = omega arith in
          rw (get_or-take m (drop b l) k nan p, get_or-take u (drop a from) k nan r, get_or-drop b l k nan, get_or-drop a from k nan)))
