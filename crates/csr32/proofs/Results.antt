-- A result list that was filled from its front, its rest cleared: what a call leaves.
use Prim.Native.Nat.{ℕ, ◌-◌, ◌≤◌}
use mathlib.Core.Path.{◌≡◌, ap, ◌∙◌}
use mathlib.Core.Bool.{false}
use mathlib.Core.List.{List, ◌++◌, append-nil}
use native.Mathlib.Omega.{arith}
use lib.ListN.{length, take, drop, replicate, length-drop, length-append, length-replicate, drop_of_length-le}
use lib.Seq.{length-take-le}
use lib.Ieee.{Float}
use Rattle.definitions.specs.Lists.{padded}
use Rattle.definitions.specs.Numbers.{zeroᶠ}
use Rattle.definitions.specs.Refusal.{Outcome, refused, done, result_left, keeps_all}
use Rattle.definitions.specs.declared.Refusal.{Refusal}

-- the first n elements of d, and z in the place of the rest, as a part that is lent and comes back leaves them
abbrev pub tailed : {A : Type 0} → ℕ → List A → List A → List A
tailed n d z = take n d ++ (z ++ drop (length d - n) (drop n d))

-- the result's elements at the front, and zeros in the place of the rest
module _ (n : ℕ) (d d₀ z : List Float) (h : n ≤ length d₀) (l : length d ≡ length d₀) (f : z ≡ replicate (length (take (length d - n) (drop n d))) zeroᶠ) where
  tail_length : length (drop n d) ≡ length d - n
  tail_length = length-drop n d

  part_length_lem : length (take (length d - n) (drop n d)) ≡ length d₀ - n
  part_length_lem = length-take-le (length d - n) (drop n d) (omega (arith, tail_length)) ∙ ap (λ k. k - n) l

  put_tail : tailed n d z ≡ take n d ++ replicate (length d₀ - n) zeroᶠ
  put_tail = rw (f, part_length_lem, drop_of_length-le (drop n d) {i = length d - n} (omega (arith, tail_length)), append-nil)

  pub left_done : (o : Outcome (List Float)) → o ≡ done (take n d) → tailed n d z ≡ result_left zeroᶠ o d₀
  unfolding result_left padded
  left_done o e = put_tail ∙ rw (e, length-take-le n d (omega arith))

  pub left_length : length (tailed n d z) ≡ length d₀
  left_length = ap length put_tail ∙ simp (length-append, length-take-le n d (omega arith), length-replicate) (omega arith)

-- after a refusal that leaves zero
pub left_cleared : (o : Outcome (List Float)) (r : Refusal) (n : ℕ) (d₀ z : List Float) → o ≡ refused r → keeps_all r ≡ false → n ≡ length d₀ → z ≡ replicate n zeroᶠ → z ≡ result_left zeroᶠ o d₀
unfolding result_left
left_cleared o r n d₀ z e k l f = rw (f, l, e) (rw (k, result_left))
