-- What is printed of a call, from its answer and the ids it left.
use Rattle.std.specs.Prelude.{Err, Ok, Result}
use mathlib.Core.Path.{◌≡◌, refl, ap, sym, ◌∙◌}
use mathlib.Core.List.{List, ◌++◌, append-nil}
use Prim.Native.Nat.{ℕ, ◌-◌}
use native.Mathlib.Omega.{arith}
use lib.ListN.{length}
use Rattle.definitions.specs.Lists.{padded}
use Rattle.definitions.specs.Refusal.{Outcome, refused, done, number_of, result_left}
use Rattle.definitions.specs.Groups.{Grouping, grouping_call, grouping_left}
use Rattle.definitions.specs.Answers.{grouping_answer}
use Rattle.definitions.specs.Text.{line, decimal, printed, groups_word, refused_word}
use Rattle.definitions.specs.declared.Refusal.{Refusal}
use Rattle.grouping_text.specs.Puts.{lines_from}
use Rattle.grouping_text.proofs.Lengths.{call_length, printed_groups}

apart : (r : Refusal) (k : ℕ) → Err r ≡ Ok k → ⊥
apart r k e = let z : ◌≡◌ {A = ℕ} 0 1 = cc in omega arith

-- a refused call
pub printed_refused : (call : Outcome Grouping) (a : (Result ℕ Refusal)) (r : Refusal) (n : ℕ) → a ≡ grouping_answer call → a ≡ Err r → n ≡ number_of r → line refused_word (decimal n) ≡ printed call
unfolding grouping_answer printed
printed_refused (refused q) a r n e f m = let z : r ≡ q = cc in rw (m, z)
printed_refused (done g) a r n e f m = absurd (apart r g.count (sym f ∙ e))

padded_whole : (ids : List ℕ) (n : ℕ) → length ids ≡ n → padded 0 n ids ≡ ids
unfolding padded
padded_whole ids n e = let z : n - length ids ≡ 0 = omega arith in rw z (append-nil ids)

-- an accepted call
module _ (n s : ℕ) (offsets nb : List ℕ) (work : ℕ) (a : (Result ℕ Refusal)) (k : ℕ) (ids₀ ids : List ℕ) (long : length ids₀ ≡ n) where
  done_printed : (o : Outcome Grouping) → grouping_call n s offsets nb n work ≡ o → a ≡ grouping_answer o → a ≡ Ok k → ids ≡ grouping_left o ids₀ → line groups_word (decimal k) ++ lines_from 0 ids ≡ printed o
  unfolding grouping_answer grouping_left result_left
  done_printed (refused q) c e f l = absurd (apart q k (sym e ∙ f))
  done_printed (done g) c e f l =
      let z : k ≡ g.count = cc in
      let w : ids ≡ g.ids = l ∙ ap (λ m. padded 0 m g.ids) long ∙ padded_whole g.ids n (call_length n s offsets nb n work g c) in
      rw (z, w) (sym (printed_groups g))

  pub printed_done : a ≡ grouping_answer (grouping_call n s offsets nb n work) → a ≡ Ok k → ids ≡ grouping_left (grouping_call n s offsets nb n work) ids₀ → line groups_word (decimal k) ++ lines_from 0 ids ≡ printed (grouping_call n s offsets nb n work)
  printed_done e f l = done_printed (grouping_call n s offsets nb n work) refl e f l
