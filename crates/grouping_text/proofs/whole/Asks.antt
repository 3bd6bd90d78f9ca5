-- What the numbers ask, step by step.
use mathlib.Core.Path.{◌≡◌, refl, ap, sym, ◌∙◌}
use mathlib.Core.Bool.{Bool, true, false, ◌&&◌, and-false}
use mathlib.Core.List.{List, [], ◌∷◌}
use Prim.Native.Nat.{ℕ, ◌≤◌, ◌<◌}
use borrow.Author.Tests.{le-leb, lt-leb}
use lib.ListN.{length}
use Rattle.std.proofs.lemmas.List.{nil_from_length}
use Rattle.definitions.specs.Refusal.{refused, done}
use Rattle.definitions.specs.Text.{Listing, is_none}
use Rattle.definitions.specs.declared.Refusal.{Refusal}
use Rattle.definitions.specs.declared.Refusal.TheVariants.{TooLarge, NeighbourOffsets}
use Rattle.grouping_text.specs.Numbers.{lists_from, asked_in}
use Rattle.grouping_text.proofs.Agrees.{start, a_1, a_2, a_3, a_4, a_5, a_6}

some : (l : List ℕ) → (length l ≡ 0 → ⊥) → is_none l ≡ false
unfolding is_none
some [] h = absurd (h refl)
some (x ∷ l) h = refl

empty : (l : List ℕ) → length l ≡ 0 → is_none l ≡ true
unfolding is_none
empty l h = ap is_none (nil_from_length l h)

module _ (ns : List ℕ) (w : Bool) where
  pub asks_1 : length ns ≡ 0 → refused NeighbourOffsets ≡ asked_in ns w
  asks_1 h = sym (ap (λ l. asked_in l w) (nil_from_length ns h) ∙ a_1 w)

  module _ (n : ℕ) (rest : List ℕ) (one : ns ≡ n ∷ rest) where
    pub asks_2 : 256 < n → refused TooLarge ≡ asked_in ns w
    asks_2 h = sym (ap (λ l. asked_in l w) one ∙ a_2 w n rest (lt-leb n 256 h))

    module _ (small : n ≤ 256) where
      pub asks_3 : length rest ≡ 0 → refused NeighbourOffsets ≡ asked_in ns w
      asks_3 h = sym (ap (λ l. asked_in l w) (one ∙ ap (λ l. n ∷ l) (nil_from_length rest h)) ∙ a_3 w n (le-leb n 256 small))

      module _ (s : ℕ) (lists : List ℕ) (two : rest ≡ s ∷ lists) where
        both : ns ≡ n ∷ s ∷ lists
        both = one ∙ ap (λ l. n ∷ l) two

        pub asks_4 : (r : Refusal) → refused r ≡ lists_from n (start lists) → refused r ≡ asked_in ns w
        asks_4 r e = sym (ap (λ l. asked_in l w) both ∙ a_4 w n (le-leb n 256 small) s lists r (sym e))

        module _ (h : Listing) (e : done h ≡ lists_from n (start lists)) where
          refuses : (is_none h.rest && w) ≡ false → refused NeighbourOffsets ≡ asked_in ns w
          refuses z = sym (ap (λ l. asked_in l w) both ∙ a_5 w n (le-leb n 256 small) s lists h (sym e) z)

          pub asks_5 : (length h.rest ≡ 0 → ⊥) → refused NeighbourOffsets ≡ asked_in ns w
          asks_5 l = refuses (ap (λ k. k && w) (some h.rest l))

          pub asks_6 : w ≡ false → refused NeighbourOffsets ≡ asked_in ns w
          asks_6 z = refuses (ap (λ k. is_none h.rest && k) z ∙ and-false (is_none h.rest))

          pub asks_7 : length h.rest ≡ 0 → w ≡ true → done (record { nodes = n; size = s; offsets = h.offsets; neighbours = h.neighbours }) ≡ asked_in ns w
          asks_7 l z = sym (ap (λ k. asked_in k w) both ∙ a_6 w n (le-leb n 256 small) s lists h (sym e) (ap (λ k. k && w) (empty h.rest l) ∙ z))
