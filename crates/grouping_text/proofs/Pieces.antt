-- A text that is read in pieces is answered as the text in one piece is, whatever the pieces and however long.
use mathlib.Core.Path.{◌≡◌, refl, ap, sym, ◌∙◌}
use mathlib.Core.Bool.{Bool, true, false, ◌&&◌}
use Rattle.std.specs.Prelude.{Option, Some, None}
use mathlib.Core.List.{List, [], ◌∷◌, ◌++◌, flat_map, append-nil}
use Prim.Native.Nat.{ℕ, zero, suc, ◌+◌, ◌-◌, ◌≤◌, min}
use native.Mathlib.Omega.{arith}
use borrow.Author.Tests.{leb-true, leb-false, le-leb, lt-leb, ltb-true, ltb-false}
use lib.Dec.{leb, ltb}
use lib.ListN.{length, take, drop, set, length-append, length-take, length-set}
use Rattle.std.proofs.lemmas.List.{drop-take}
use lib.Seq.{take-nil, take-take, take_all, take-length, take-suc-set, set_out, append_snoc, take-append_seam, length-take-le}
use Rattle.definitions.specs.Refusal.{Outcome, refused, done}
use Rattle.definitions.specs.Text.{is_blank, is_digit, is_none, Listing, program, printed}
use Rattle.definitions.specs.declared.Refusal.{Refusal}
use Rattle.definitions.specs.declared.Refusal.TheVariants.{TooLarge, NeighbourOffsets}
use Rattle.grouping_text.specs.Numbers.{grown_by, Spelling, ended, behind, spelt, listing, lists_from, asked_in, answered}
use Rattle.grouping_text.proofs.Agrees.{split, start, spelt_digit, spelt_blank, spelt_other, node_none, node_large, node_short, node_done, lists_refused, lists_next, lists_end, a_2, a_4, a_5, a_6, text_agrees}
use Rattle.grouping_text.specs.Feeding.{fresh, Held, held, closed, grown, spoilt, byte_in, fed, fed_all, taken, said}

-- ---- the first 2,307 numbers decide: two, a count for each of 256 nodes, 2,048 neighbours, and one that is too many

abbrev cut_lists : ℕ → Listing → Listing
cut_lists k g = listing g.offsets g.neighbours (take k g.rest)

-- the lists of fewer numbers, which end behind the lists
abbrev Cut : Outcome Listing → Outcome Listing → Type 0
Cut (refused r) b = b ≡ refused r
Cut (done h) b = (j : ℕ) × ((1 ≤ j) × (b ≡ done (cut_lists j h)))

both_refused : (a b : Outcome Listing) (r : Refusal) → a ≡ refused r → b ≡ refused r → Cut a b
both_refused a b r e f = rw e f

lists_cut : (left : ℕ) (o nb rest : List ℕ) (k : ℕ) → left + 1 + (2048 - length nb) ≤ k → Cut (lists_from left (listing o nb rest)) (lists_from left (listing o nb (take k rest)))
lists_cut zero o nb rest k p = rw (lists_end (listing o nb rest)) (k, (omega arith, lists_end (listing o nb (take k rest))))
lists_cut (suc left) o nb [] k p =
    both_refused (lists_from (suc left) (listing o nb [])) (lists_from (suc left) (listing o nb (take k []))) NeighbourOffsets
    (lists_refused left (listing o nb []) NeighbourOffsets (node_none o nb))
    (rw (take-nil {A = ℕ} k) (lists_refused left (listing o nb []) NeighbourOffsets (node_none o nb)))
lists_cut (suc left) o nb (x ∷ rest) zero p = absurd (omega arith)
lists_cut (suc left) o nb (x ∷ rest) (suc k) p = split (leb (length nb + x) 2048)
    (λ t.
    let fits : length nb + x ≤ 2048 = leb-true (length nb + x) 2048 t in
    let l : length (take k rest) ≡ min k (length rest) = length-take k rest in
    split (leb x (length rest))
    (λ u.
    let enough : x ≤ length rest = leb-true x (length rest) u in
    let o' = o ++ ((length nb + x) ∷ []) in
    let nb' = nb ++ take x rest in
    let d : drop x (take k rest) ≡ take (k - x) (drop x rest) = let e : k ≡ x + (k - x) = omega arith in ap (λ i. drop x (take i rest)) e ∙ drop-take x (k - x) rest in
    let n : length nb' ≡ length nb + x = length-append nb (take x rest) ∙ ap (λ i. length nb + i) (length-take-le x rest enough) in
    rw (
      lists_next left (listing o nb (x ∷ rest)) (listing o' nb' (drop x rest)) (node_done o nb x rest t u),
      lists_next left (listing o nb (x ∷ take k rest)) (listing o' (nb ++ take x (take k rest)) (drop x (take k rest))) (node_done o nb x (take k rest) t (le-leb x (length (take k rest)) (omega arith))),
      take-take x k rest (omega arith),
      d,
    )
    (lists_cut left o' nb' (drop x rest) (k - x) (omega arith)))
    (λ u. both_refused (lists_from (suc left) (listing o nb (x ∷ rest))) (lists_from (suc left) (listing o nb (x ∷ take k rest))) NeighbourOffsets
    (lists_refused left (listing o nb (x ∷ rest)) NeighbourOffsets (node_short o nb x rest t u))
    (lists_refused left (listing o nb (x ∷ take k rest)) NeighbourOffsets (node_short o nb x (take k rest) t (lt-leb x (length (take k rest)) (omega (arith, leb-false x (length rest) u)))))))
    (λ t. both_refused (lists_from (suc left) (listing o nb (x ∷ rest))) (lists_from (suc left) (listing o nb (x ∷ take k rest))) TooLarge
    (lists_refused left (listing o nb (x ∷ rest)) TooLarge (node_large o nb x rest t))
    (lists_refused left (listing o nb (x ∷ take k rest)) TooLarge (node_large o nb x (take k rest) t)))

none_cut : (j : ℕ) (l : List ℕ) → 1 ≤ j → is_none (take j l) ≡ is_none l
unfolding is_none
none_cut zero l h = absurd (omega arith)
none_cut (suc j) [] h = refl
none_cut (suc j) (x ∷ l) h = refl

asked_cut : (k : ℕ) → 2307 ≤ k → (ns : List ℕ) (w : Bool) → asked_in (take k ns) w ≡ asked_in ns w
asked_cut k h [] w = rw (take-nil {A = ℕ} k) refl
asked_cut zero h (n ∷ ns) w = absurd (omega arith)
asked_cut (suc k) h (n ∷ []) w = rw (take-nil {A = ℕ} k) refl
asked_cut (suc zero) h (n ∷ s ∷ rest) w = absurd (omega arith)
asked_cut (suc (suc k)) h (n ∷ s ∷ rest) w = split (leb n 256)
    (λ b. go b (lists_from n (start rest)) refl (lists_cut n (0 ∷ []) [] rest k (omega (arith, leb-true n 256 b))))
    (λ b. a_2 w n (s ∷ take k rest) b ∙ sym (a_2 w n (s ∷ rest) b))
  where
    go : leb n 256 ≡ true → (o : Outcome Listing) → lists_from n (start rest) ≡ o → Cut (lists_from n (start rest)) (lists_from n (start (take k rest))) → asked_in (n ∷ s ∷ take k rest) w ≡ asked_in (n ∷ s ∷ rest) w
    go b (refused r) e c =
        let p : Cut (refused r) (lists_from n (start (take k rest))) = rw e at c in
        a_4 w n b s (take k rest) r p ∙ sym (a_4 w n b s rest r e)
    go b (done g) e c =
        let p : Cut (done g) (lists_from n (start (take k rest))) = rw e at c in
        let q : (is_none (take p.0 g.rest) && w) ≡ (is_none g.rest && w) = ap (λ i. i && w) (none_cut p.0 g.rest p.1.0) in
        split (is_none g.rest && w)
        (λ t. a_6 w n b s (take k rest) (cut_lists p.0 g) p.1.1 (q ∙ t) ∙ sym (a_6 w n b s rest g e t))
        (λ t. a_5 w n b s (take k rest) (cut_lists p.0 g) p.1.1 (q ∙ t) ∙ sym (a_5 w n b s rest g e t))

-- ---- what a reader says of the rest of a text

abbrev cut : ℕ → Spelling → Spelling
cut k t = record { numbers = take k t.numbers; whole = t.whole }

abbrev at : Bool → Option ℕ → ℕ → List ℕ → Held
at good value count l = held (record { good = good; value = value; count = count }) l

-- the numbers read already, then those that the rest spells, as far as there is room
resumed : Held → List ℕ → Spelling
resumed h text = cut (length h.numbers) (elim h.reader.good [
  | true ↦ behind (take h.reader.count h.numbers) (spelt h.reader.value text)
  | false ↦ record { numbers = take h.reader.count h.numbers ++ ended h.reader.value; whole = false }
])

-- a number more, where there is room for it
pushed : (l : List ℕ) (c v : ℕ) (ys : List ℕ) → take (length (set l c v)) (take (min (c + 1) (length l)) (set l c v) ++ ys) ≡ take (length l) (take c l ++ (v ∷ ys))
pushed l c v ys = split (ltb c (length l))
    (λ t.
    let m : min (c + 1) (length l) ≡ suc c = omega (arith, ltb-true c (length l) t) in
    rw (length-set l c v, m, take-suc-set l c v (ltb-true c (length l) t), append_snoc (take c l) v ys) refl)
    (λ t.
    let out : length l ≤ c = ltb-false c (length l) t in
    let m : min (c + 1) (length l) ≡ length l = omega arith in
    rw (set_out l c v out, m, take-length l, take_all c l out) (take-append_seam l ys ∙ sym (take-append_seam l (v ∷ ys))))

grows : (b : ℕ) (bs : List ℕ) (value : Option ℕ) (count : ℕ) (l : List ℕ) → resumed (grown b (at true value count l)) bs ≡ cut (length l) (behind (take count l) (spelt (Some (grown_by b value)) bs))
unfolding resumed grown
grows b bs value count l = refl

spoils : (bs : List ℕ) (value : Option ℕ) (count : ℕ) (l : List ℕ) → resumed (spoilt (at true value count l)) bs ≡ cut (length l) (behind (take count l) (record { numbers = []; whole = false }))
unfolding resumed spoilt behind ended
spoils bs value count l = refl

closes : (bs : List ℕ) (value : Option ℕ) (count : ℕ) (l : List ℕ) → resumed (closed (at true value count l)) bs ≡ cut (length l) (behind (take count l) (behind (ended value) (spelt None bs)))
unfolding resumed closed behind ended
closes bs (Some value) count l = ap (λ ns. record { numbers = ns; whole = (spelt None bs).whole }) (pushed l count value (spelt None bs).numbers)
closes bs None count l = refl

-- one byte further
byte_on : (b : ℕ) (bs : List ℕ) (good : Bool) (value : Option ℕ) (count : ℕ) (l : List ℕ) → resumed (byte_in b (at good value count l)) bs ≡ resumed (at good value count l) (b ∷ bs)
unfolding resumed byte_in
byte_on b bs false value count l = refl
byte_on b bs true value count l = split (is_digit b)
    (λ d. ap (λ h. resumed h bs) (byte_digit d) ∙ grows b bs value count l ∙ ap (λ t. cut (length l) (behind (take count l) t)) (sym (spelt_digit value b bs d)))
    (λ d. split (is_blank b)
    (λ e. ap (λ h. resumed h bs) (byte_blank d e) ∙ closes bs value count l ∙ ap (λ t. cut (length l) (behind (take count l) t)) (sym (spelt_blank value b bs d e)))
    (λ e. ap (λ h. resumed h bs) (byte_other d e) ∙ spoils bs value count l ∙ ap (λ t. cut (length l) (behind (take count l) t)) (sym (spelt_other value b bs d e))))
  where
    byte_digit : is_digit b ≡ true → byte_in b (at true value count l) ≡ grown b (at true value count l)
    byte_digit d = rw (byte_in, d)

    byte_blank : is_digit b ≡ false → is_blank b ≡ true → byte_in b (at true value count l) ≡ closed (at true value count l)
    byte_blank d e = rw (byte_in, d, e)

    byte_other : is_digit b ≡ false → is_blank b ≡ false → byte_in b (at true value count l) ≡ spoilt (at true value count l)
    byte_other d e = rw (byte_in, d, e)

-- a piece further
fed_on : (bs rest : List ℕ) (h : Held) → resumed (fed bs h) rest ≡ resumed h (bs ++ rest)
unfolding fed
fed_on [] rest h = refl
fed_on (b ∷ bs) rest h = fed_on bs rest (byte_in b h) ∙ byte_on b (bs ++ rest) h.reader.good h.reader.value h.reader.count h.numbers

-- the end
front : (l : List ℕ) (m : ℕ) → take (length l) (take m l ++ []) ≡ take m l
front l m = rw (append-nil (take m l)) (take_all (length l) (take m l) (omega (arith, length-take m l)))

taken_on : (good : Bool) (value : Option ℕ) (count : ℕ) (l : List ℕ) → taken (at good value count l) ≡ resumed (at good value count l) []
unfolding resumed taken closed spelt behind ended
taken_on true (Some value) count l = ap (λ ns. record { numbers = ns; whole = true }) (sym (front (set l count value) (min (count + 1) (length l))) ∙ pushed l count value [])
taken_on true None count l = ap (λ ns. record { numbers = ns; whole = true }) (sym (front l count))
taken_on false (Some value) count l = ap (λ ns. record { numbers = ns; whole = false }) (sym (front (set l count value) (min (count + 1) (length l))) ∙ pushed l count value [])
taken_on false None count l = ap (λ ns. record { numbers = ns; whole = false }) (sym (front l count))

-- ---- THE PIECES DO NOT MATTER

pub fed_append : (a b : List ℕ) (h : Held) → fed (a ++ b) h ≡ fed b (fed a h)
unfolding fed
fed_append [] b h = refl
fed_append (x ∷ a) b h = fed_append a b (byte_in x h)

pub fed_pieces : (ps : List (List ℕ)) (h : Held) → fed_all ps h ≡ fed (flat_map (λ p. p) ps) h
unfolding fed_all fed flat_map
fed_pieces [] h = refl
fed_pieces (p ∷ ps) h = fed_pieces ps (fed p h) ∙ sym (fed_append p (flat_map (λ q. q) ps) h)

-- a text of any length, with room for 2,307 numbers
pub said_program : (text l : List ℕ) → 2307 ≤ length l → said (fed text (held fresh l)) ≡ program text
unfolding said program resumed behind
said_program text l h =
    let s = fed text (held fresh l) in
    let t = spelt None text in
    let e : taken s ≡ cut (length l) t = taken_on s.reader.good s.reader.value s.reader.count s.numbers ∙ fed_on text [] (held fresh l) ∙ ap (resumed (held fresh l)) (append-nil text) in
    ap (λ q. printed (answered (asked_in q.numbers q.whole))) e ∙ ap (λ a. printed (answered a)) (asked_cut (length l) h t.numbers t.whole) ∙ ap printed (text_agrees text)

-- THE PROGRAM, FED PIECE BY PIECE
pub pieces_program : (ps : List (List ℕ)) (l : List ℕ) → 2307 ≤ length l → said (fed_all ps (held fresh l)) ≡ program (flat_map (λ p. p) ps)
pieces_program ps l h = ap said (fed_pieces ps (held fresh l)) ∙ said_program (flat_map (λ p. p) ps) l h
