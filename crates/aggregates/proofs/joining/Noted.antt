-- Numbers written one after another: what is written in two parts is written in one, and over zeros it is the numbers and the zeros left. By recursion on the numbers.
use mathlib.Core.Path.{◌≡◌, refl, ap, ◌∙◌}
use mathlib.Core.Bool.{Bool}
use mathlib.Core.List.{List, [], ◌∷◌, ◌++◌}
use Prim.Native.Nat.{ℕ, zero, suc, ◌+◌, ◌-◌, ◌*◌, ◌≤◌}
use native.Mathlib.Omega.{arith}
use lib.ListN.{length, set, replicate, length-set}
use lib.Seq.{set_out}
use Rattle.definitions.specs.Lists.{padded}
use Rattle.definitions.specs.Groups.{Groups, Joining, joined, replay}
use Rattle.definitions.specs.JoiningLog.{rule_of, log_of}
use Rattle.aggregates.specs.Log.{noted}

pub noted_append : (at : ℕ) (xs ys l : List ℕ) → noted at (xs ++ ys) l ≡ noted (at + length xs) ys (noted at xs l)
unfolding noted
noted_append at [] ys l = let e : at + 0 ≡ at = omega arith in rw e
noted_append at (x ∷ xs) ys l = let e : at + suc (length xs) ≡ suc at + length xs = omega arith in rw e (noted_append (suc at) xs ys (set l at x))

pub length_noted : (at : ℕ) (xs l : List ℕ) → length (noted at xs l) ≡ length l
unfolding noted
length_noted at [] l = refl
length_noted at (x ∷ xs) l = length_noted (suc at) xs (set l at x) ∙ length-set l at x

pub noted_outside : (at : ℕ) (xs l : List ℕ) → length l ≤ at → noted at xs l ≡ l
unfolding noted
noted_outside at [] l h = refl
noted_outside at (x ∷ xs) l h = rw (set_out l at x h) (noted_outside (suc at) xs l (omega arith))

-- a place later in a list with one more before it
noted_behind : (at : ℕ) (xs : List ℕ) (y : ℕ) (l : List ℕ) → noted (suc at) xs (y ∷ l) ≡ y ∷ noted at xs l
unfolding noted
noted_behind at [] y l = refl
noted_behind at (x ∷ xs) y l = noted_behind (suc at) xs y (set l at x)

zeros_after : (m : ℕ) (xs : List ℕ) → length xs ≤ m → noted 0 xs (replicate m 0) ≡ xs ++ replicate (m - length xs) 0
unfolding noted
zeros_after m [] h = let e : m - 0 ≡ m = omega arith in rw e
zeros_after zero (x ∷ xs) h = absurd (omega arith)
zeros_after (suc m) (x ∷ xs) h =
    let e : suc m - suc (length xs) ≡ m - length xs = omega arith in
    rw e (noted_behind 0 xs x (replicate m 0) ∙ ap (λ l. x ∷ l) (zeros_after m xs (omega arith)))

pub noted_zeros : (m : ℕ) (xs : List ℕ) → length xs ≤ m → noted 0 xs (replicate m 0) ≡ padded 0 m xs
unfolding padded
noted_zeros m xs h = zeros_after m xs h

-- ---- THE LOG of joinings in two parts, and its length

module _ (lists : ℕ → List ℕ) (anchor : ℕ → Bool) where
  pub log_append : (s : Groups) (js ks : List Joining) → log_of lists anchor s (js ++ ks) ≡ log_of lists anchor s js ++ log_of lists anchor (replay js s) ks
  unfolding log_of replay
  log_append s [] ks = refl
  log_append s (j ∷ js) ks = ap (λ l. (j.moved - 1) ∷ (j.taker - 1) ∷ rule_of lists anchor s j ∷ l) (log_append (joined j s) js ks)

  pub length_log : (s : Groups) (js : List Joining) → length (log_of lists anchor s js) ≡ 3 * length js
  unfolding log_of
  length_log s [] = refl
  length_log s (j ∷ js) = omega (arith, length_log (joined j s) js)
