-- From what was read and put to the program's text.
use mathlib.Core.Path.{◌≡◌, refl, ap, sym, ◌∙◌}
use mathlib.Core.List.{List, [], ◌∷◌, ◌++◌}
use Prim.Native.Nat.{ℕ, suc, ◌+◌, ◌*◌, ◌≤◌, min}
use native.Mathlib.Omega.{arith}
use borrow.Author.Tests.{ltb-true, ltb-false}
use lib.Dec.{ltb}
use lib.ListN.{length, take, drop, length-append}
use lib.Seq.{sets, set-append_seam, append_snoc, take-nil, take_all, take-length}
use Rattle.definitions.specs.Refusal.{Outcome, refused, done, number_of}
use Rattle.definitions.specs.declared.Refusal.{Refusal}
use Rattle.definitions.specs.Groups.{grouping_call}
use Rattle.definitions.specs.Text.{program, printed, line, decimal, refused_word}
use Rattle.numbers.specs.Copied.{copied}
use Rattle.grouping_text.specs.declared.Reader.{Reader}
use Rattle.grouping_text.specs.Numbers.{Asked, asked_in, answered}
use Rattle.grouping_text.proofs.Agrees.{split}
use Rattle.grouping_text.specs.Feeding.{fresh, Held, held, closed, fed, taken, said}
use Rattle.grouping_text.proofs.Pieces.{said_program}
use Rattle.grouping_text.specs.Puts.{Puts}
use Rattle.grouping_text.proofs.printing.Bytes.{sets_out}

sets_copied : (p l xs : List ℕ) → sets (p ++ l) (length p) xs ≡ p ++ (take (length l) xs ++ drop (length xs) l)
sets_copied p l [] = ap (λ t. p ++ (t ++ l)) (sym (take-nil (length l)))
sets_copied p [] (x ∷ xs) = sets_out (p ++ []) (length p) (x ∷ xs) (omega (arith, length-append p []))
sets_copied p (y ∷ l) (x ∷ xs) =
    let e : suc (length p) ≡ length (p ++ (x ∷ [])) = omega (arith, length-append p (x ∷ [])) in
    ap (λ k. sets k (suc (length p)) xs) (set-append_seam p y l x ∙ sym (append_snoc p x l))
    ∙ ap (λ n. sets (p ++ (x ∷ []) ++ l) n xs) e
    ∙ sets_copied (p ++ (x ∷ [])) l xs
    ∙ append_snoc p x (take (length l) xs ++ drop (length xs) l)

pub puts_whole : (l xs ys l₁ : List ℕ) (r : ℕ) → xs ≡ ys → Puts l 0 xs l₁ r → (r ≡ min (length ys) (length l)) × (l₁ ≡ copied ys l)
unfolding copied
puts_whole l xs ys l₁ r e p =
    let q : r ≡ min (length xs) (length l) = omega (arith, p.end) in
    (q ∙ ap (λ k. min (length k) (length l)) e, p.list ∙ sets_copied [] l xs ∙ ap (λ k. take (length l) k ++ drop (length k) l) e)

-- what is printed of what was asked, by the numbers that ask it
pub prints_answer : (asked : Outcome Asked) (q : Asked) → done q ≡ asked → printed (grouping_call q.nodes q.size q.offsets q.neighbours q.nodes (8 * q.nodes + 4 * length q.neighbours + 16)) ≡ printed (answered asked)
unfolding answered
prints_answer asked q e = ap (λ a. printed (answered a)) e

pub prints_cause : (asked : Outcome Asked) (r : Refusal) → refused r ≡ asked → line refused_word (decimal (number_of r)) ≡ printed (answered asked)
unfolding answered printed
prints_cause asked r e = ap (λ a. printed (answered a)) e

-- as many numbers as there are, of those that the reader counts
front : (c : ℕ) (l : List ℕ) (m : ℕ) → m ≡ min c (length l) → take m l ≡ take c l
front c l m e = split (ltb c (length l))
    (λ t. let z : m ≡ c = omega (arith, ltb-true c (length l) t) in rw z refl)
    (λ t. let z : m ≡ length l = omega (arith, ltb-false c (length l) t) in rw (z, take-length l) (sym (take_all c l (ltb-false c (length l) t))))

-- what a closed reader says
pub said_is : (h : Held) (r : Reader) (l : List ℕ) (m : ℕ) → held r l ≡ closed h → m ≡ min r.count (length l) → printed (answered (asked_in (take m l) r.good)) ≡ said h
unfolding said taken
said_is h r l m e z = ap (λ k. printed (answered (asked_in k r.good))) (front r.count l m z) ∙ ap (λ q. printed (answered (asked_in (take q.reader.count q.numbers) q.reader.good))) e

-- a text in one piece
pub text_said : (text l : List ℕ) (r q : Reader) (l' : List ℕ) → 2307 ≤ length l → r ≡ fresh → held q l' ≡ fed text (held r l) → said (held q l') ≡ program text
text_said text l r q l' h e f = ap said (f ∙ ap (λ s. fed text (held s l)) e) ∙ said_program text l h
