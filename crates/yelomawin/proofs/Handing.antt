-- What a call hands out, from its parts and back.
use Prim.Native.Nat.{ℕ}
use mathlib.Core.Path.{◌≡◌, ap}
use mathlib.Core.List.{List}
use Rattle.yelomawin.specs.Calls.{Handed, handed, ResultWork, result_work, LogLists, log_lists}

module _ {L : Type 0} {n m : ℕ} {k l : L} {xs ys : List ℕ} where
  pub handed_is : n ≡ m → k ≡ l → xs ≡ ys → handed n k xs ≡ handed m l ys
  handed_is p q r = rw (p, q, r)

-- its number, its lists, its answer
pub parts : {L : Type 0} {x y : Handed L} → x ≡ y → (x.number ≡ y.number) × ((x.lists ≡ y.lists) × (x.answer ≡ y.answer))
parts e = (ap (λ h. h.number) e, (ap (λ h. h.lists) e, ap (λ h. h.answer) e))

pub pair_is : {A : Type 0} {xs ys us vs : List A} → xs ≡ ys → us ≡ vs → result_work xs us ≡ result_work ys vs
pair_is p q = rw (p, q)

pub two_parts : {A : Type 0} {x y : Handed (ResultWork A)} → x ≡ y → (x.number ≡ y.number) × ((x.lists.result ≡ y.lists.result) × ((x.lists.work ≡ y.lists.work) × (x.answer ≡ y.answer)))
two_parts e = (ap (λ h. h.number) e, (ap (λ h. h.lists.result) e, (ap (λ h. h.lists.work) e, ap (λ h. h.answer) e)))

pub lists_are : {ids ids' log log' work work' : List ℕ} → ids ≡ ids' → log ≡ log' → work ≡ work' → log_lists ids log work ≡ log_lists ids' log' work'
lists_are p q r = rw (p, q, r)

-- its number, its three lists, its answer
pub log_parts : {x y : Handed LogLists} → x ≡ y → (x.number ≡ y.number) × ((x.lists.ids ≡ y.lists.ids) × ((x.lists.log ≡ y.lists.log) × ((x.lists.work ≡ y.lists.work) × (x.answer ≡ y.answer))))
log_parts e = (ap (λ h. h.number) e, (ap (λ h. h.lists.ids) e, (ap (λ h. h.lists.log) e, (ap (λ h. h.lists.work) e, ap (λ h. h.answer) e))))
