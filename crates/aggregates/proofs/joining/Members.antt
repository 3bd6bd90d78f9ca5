-- Members of a list: the numbers by first appearance are its members, each once; what a test keeps; a list of different numbers has one element where all are the same one.
use mathlib.Core.Path.{◌≡◌, refl, ap, sym}
use mathlib.Core.Logic.{◌⊎◌, inl, inr}
use mathlib.Core.Bool.{Bool, true, false, not}
use mathlib.Core.List.{List, [], ◌∷◌, ◌++◌}
use Prim.Native.Nat.{ℕ, ◌<◌}
use native.Mathlib.Omega.{arith}
use borrow.Author.Tests.{eqb-true, eqb-false}
use lib.Dec.{eqb}
use lib.ListN.{length}
use Rattle.definitions.specs.Lists.{keep, any}
use Rattle.definitions.specs.Groups.{firsts}
use Rattle.definitions.specs.JoiningLog.{unbeaten}
use Rattle.laws.proofs.Tests.{both_false}
use Rattle.laws.proofs.Kept.{keep_nil, keep_yes, keep_no}
use Rattle.laws.proofs.Lists.{Each, none, more, each_head, each_tail, each_imp, each_append, each_left}
use Rattle.aggregates.specs.JoinState.{Once}
use Rattle.aggregates.proofs.Appearance.{has, firsts_old, firsts_new}
use Rattle.aggregates.proofs.Stops.{by_test}
use Rattle.aggregates.proofs.NodeLists.{each_last}
use Rattle.aggregates.proofs.joining.Chains.{once_append}

abbrev pub In : ℕ → List ℕ → Type 0
In b [] = ⊥
In b (x ∷ xs) = (b ≡ x) ⊎ In b xs

pub in_each : (P : ℕ → Type 0) (b : ℕ) (l : List ℕ) → In b l → Each P l → P b
in_each P b [] i a = absurd i
in_each P b (x ∷ l) (inl e) a = rw e (each_head a)
in_each P b (x ∷ l) (inr i) a = in_each P b l i (each_tail a)

pub each_in : (l : List ℕ) → Each (λ a. In a l) l
each_in [] = none
each_in (x ∷ l) = more (inl refl) (each_imp (λ a i. inr i) (each_in l))

-- ---- ONE ELEMENT

only_one : (b : ℕ) (l : List ℕ) → Each (λ a. a ≡ b → ⊥) l → Each (λ a. a ≡ b) l → l ≡ []
only_one b [] d a = refl
only_one b (x ∷ l) d a = absurd (each_head d (each_head a))

pub single : (b : ℕ) (l : List ℕ) → Once l → In b l → Each (λ a. a ≡ b) l → l ≡ b ∷ []
single b [] o i a = absurd i
single b (x ∷ l) o i a = let e = each_head a in rw (e, only_one b l (rw e at o.0) (each_tail a))

pub each_same : (b : ℕ) (l : List ℕ) → length l ≡ 1 → In b l → Each (λ a. a ≡ b) l
each_same b [] h i = absurd i
each_same b (x ∷ []) h (inl e) = more (sym e) none
each_same b (x ∷ []) h (inr i) = absurd i
each_same b (x ∷ (y ∷ l)) h i = absurd (omega arith)

pub in_some : (b : ℕ) (l : List ℕ) → In b l → 0 < length l
in_some b [] i = absurd i
in_some b (x ∷ l) i = omega arith

-- ---- BY FIRST APPEARANCE

has_each : (P : ℕ → Type 0) (x : ℕ) (l : List ℕ) → has x l ≡ true → Each P l → P x
unfolding any
has_each P x [] h a = absurd (let z : ◌≡◌ {A = ℕ} 0 1 = cc in omega arith)
has_each P x (y ∷ l) h a = by_test (eqb x y) (λ e. rw (eqb-true x y e) (each_head a)) (λ e. has_each P x l (rw (any, e) at h) (each_tail a))

has_not : (x : ℕ) (l : List ℕ) → has x l ≡ false → Each (λ y. Each (λ z. z ≡ y → ⊥) (x ∷ [])) l
unfolding any
has_not x [] h = none
has_not x (y ∷ l) h = let p = both_false (eqb x y) (has x l) h in more (more (eqb-false x y p.0) none) (has_not x l p.1)

pub each_firsts : (P : ℕ → Type 0) (seen xs : List ℕ) → Each P seen → Each P xs → Each P (firsts seen xs)
unfolding firsts
each_firsts P seen [] s a = s
each_firsts P seen (x ∷ xs) s a = by_test (has x seen)
    (λ e. rw (firsts_old seen x xs e) (each_firsts P seen xs s (each_tail a)))
    (λ e. rw (firsts_new seen x xs e) (each_firsts P (seen ++ (x ∷ [])) xs (each_append s (more (each_head a) none)) (each_tail a)))

pub firsts_each : (P : ℕ → Type 0) (seen xs : List ℕ) → Each P (firsts seen xs) → Each P seen × Each P xs
unfolding firsts
firsts_each P seen [] a = (a, none)
firsts_each P seen (x ∷ xs) a = by_test (has x seen)
    (λ e. let r = firsts_each P seen xs (rw (firsts_old seen x xs e) at a) in (r.0, more (has_each P x seen e r.0) r.1))
    (λ e.
    let r = firsts_each P (seen ++ (x ∷ [])) xs (rw (firsts_new seen x xs e) at a) in
    (each_left seen (x ∷ []) r.0, more (each_last seen r.0) r.1))

pub once_firsts : (seen xs : List ℕ) → Once seen → Once (firsts seen xs)
unfolding firsts
once_firsts seen [] o = o
once_firsts seen (x ∷ xs) o = by_test (has x seen)
    (λ e. rw (firsts_old seen x xs e) (once_firsts seen xs o))
    (λ e. rw (firsts_new seen x xs e) (once_firsts (seen ++ (x ∷ [])) xs (once_append seen (x ∷ []) o (none, tt) (has_not x seen e))))

-- ---- WHAT A TEST KEEPS

module _ (p : ℕ → Bool) where
  pub keep_each : (P : ℕ → Type 0) (l : List ℕ) → Each P l → Each (λ a. P a × (p a ≡ true)) (keep p l)
  keep_each P [] a = rw (keep_nil p) none
  keep_each P (x ∷ l) a = by_test (p x)
      (λ e. rw (keep_yes p x l e) (more (each_head a, e) (keep_each P l (each_tail a))))
      (λ e. rw (keep_no p x l e) (keep_each P l (each_tail a)))

  pub each_kept : (P : ℕ → Type 0) (l : List ℕ) → Each P (keep p l) → Each (λ a. p a ≡ true → P a) l
  each_kept P [] a = none
  each_kept P (x ∷ l) a = by_test (p x)
      (λ e. let b = rw (keep_yes p x l e) at a in more (λ _. each_head b) (each_kept P l (each_tail b)))
      (λ e. more (λ t. absurd (let z : ◌≡◌ {A = ℕ} 0 1 = cc in omega arith)) (each_kept P l (rw (keep_no p x l e) at a)))

  pub once_keep : (l : List ℕ) → Once l → Once (keep p l)
  once_keep [] o = rw (keep_nil p) tt
  once_keep (x ∷ l) o = by_test (p x)
      (λ e. rw (keep_yes p x l e) (each_imp (λ y d. d.0) (keep_each (λ y. y ≡ x → ⊥) l o.0), once_keep l o.1))
      (λ e. rw (keep_no p x l e) (once_keep l o.1))

  pub in_keep : (b : ℕ) (l : List ℕ) → In b l → p b ≡ true → In b (keep p l)
  in_keep b l i t = in_each (λ a. p a ≡ true → In a (keep p l)) b l i (each_kept (λ a. In a (keep p l)) l (each_in (keep p l))) t

  pub keep_every : (l : List ℕ) → Each (λ a. p a ≡ true) l → keep p l ≡ l
  keep_every [] a = keep_nil p
  keep_every (x ∷ l) a = rw (keep_yes p x l (each_head a), keep_every l (each_tail a))

-- what two tests keep one after the other is what a third keeps
keep_twice : (p t q : ℕ → Bool) (l : List ℕ) → Each (λ a. (q a ≡ true → (p a ≡ true) × (t a ≡ true)) × (q a ≡ false → p a ≡ true → t a ≡ false)) l → keep t (keep p l) ≡ keep q l
keep_twice p t q [] a = rw (keep_nil p, keep_nil q, keep_nil t)
keep_twice p t q (x ∷ l) a = by_test (q x)
    (λ e. let r = (each_head a).0 e in rw (keep_yes q x l e, keep_yes p x l r.0, keep_yes t x (keep p l) r.1) (ap (λ k. x ∷ k) (keep_twice p t q l (each_tail a))))
    (λ e. by_test (p x)
    (λ f. rw (keep_no q x l e, keep_yes p x l f, keep_no t x (keep p l) ((each_head a).1 e f)) (keep_twice p t q l (each_tail a)))
    (λ f. rw (keep_no q x l e, keep_no p x l f) (keep_twice p t q l (each_tail a))))

any_none : (f : ℕ → Bool) (l : List ℕ) → Each (λ c. f c ≡ false) l → any f l ≡ false
unfolding any
any_none f [] a = refl
any_none f (x ∷ l) a = rw (any, each_head a) (any_none f l (each_tail a))

any_some : (f : ℕ → Bool) (b : ℕ) (l : List ℕ) → In b l → f b ≡ true → any f l ≡ true
unfolding any
any_some f b [] i t = absurd i
any_some f b (x ∷ l) (inl e) t = rw (any, ← e, t)
any_some f b (x ∷ l) (inr i) t = by_test (f x) (λ e. rw (any, e)) (λ e. rw (any, e) (any_some f b l i t))

-- ONE TEST FURTHER: of those that p keeps, none beats the ones that q keeps, and b beats the others; then those that none beats are what q keeps
pub unbeaten_are : (beats : ℕ → ℕ → Bool) (p q : ℕ → Bool) (P : ℕ → Type 0) (b : ℕ) (l : List ℕ) → Each P l → In b l → p b ≡ true
    → ((a : ℕ) → q a ≡ true → p a ≡ true)
    → ((a c : ℕ) → P a → P c → p c ≡ true → q a ≡ true → beats c a ≡ false)
    → ((a : ℕ) → P a → p a ≡ true → q a ≡ false → beats b a ≡ true)
    → unbeaten beats (keep p l) ≡ keep q l
unfolding unbeaten
unbeaten_are beats p q P b l good here pb less safe lost = keep_twice p (λ a. not (any (λ c. beats c a) (keep p l))) q l
    (each_imp (λ a g. (
      (λ t. (less a t, rw (any_none (λ c. beats c a) (keep p l) (each_imp (λ c k. safe a c g k.0 k.1 t) (keep_each p P l good))))),
      (λ f t. rw (any_some (λ c. beats c a) b (keep p l) (in_keep p b l here pb) (lost a g t f))),
    )) good)
