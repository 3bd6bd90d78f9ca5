-- The loop of `names_of`.
use mathlib.Core.Path.{◌≡◌, sym, ap, ◌∙◌}
use mathlib.Core.List.{List, [], ◌∷◌, ◌++◌, append-nil}
use Prim.Native.Nat.{ℕ, ◌+◌, ◌-◌, ◌≤◌, ◌<◌}
use native.Mathlib.Omega.{arith}
use native.Mathlib.Numerals.{add-one}
use borrow.Author.Tests.{eq-eqb, ne_eqb}
use lib.ListN.{length, get_or, set, take, drop, length-set}
use lib.Seq.{take-suc-set, append_snoc}
use Rattle.aggregates.specs.JoinChoice.{at, others_by}
use Rattle.std.proofs.lemmas.List.{drop_more}

module _ (g : ℕ) (ids : List ℕ) (sizes : ℕ → ℕ) (w : ℕ) (ws : List ℕ) where
  others_same : get_or ids w 0 ≡ g → others_by g ids sizes (w ∷ ws) ≡ others_by g ids sizes ws
  unfolding others_by
  others_same e = rw (others_by, eq-eqb (get_or ids w 0) g e)

  others_empty : (get_or ids w 0 ≡ g → ⊥) → sizes (get_or ids w 0) ≡ 0 → others_by g ids sizes (w ∷ ws) ≡ others_by g ids sizes ws
  unfolding others_by
  others_empty d e = rw (others_by, ne_eqb (get_or ids w 0) g d, eq-eqb (sizes (get_or ids w 0)) 0 e)

  others_takes : (get_or ids w 0 ≡ g → ⊥) → (sizes (get_or ids w 0) ≡ 0 → ⊥) → others_by g ids sizes (w ∷ ws) ≡ get_or ids w 0 ∷ others_by g ids sizes ws
  unfolding others_by
  others_takes d e = rw (others_by, ne_eqb (get_or ids w 0) g d, ne_eqb (sizes (get_or ids w 0)) 0 e)

-- the names so far, and those that the list from i on still gives
pub record Naming (list ids counts names₀ : List ℕ) (g tail : ℕ) (names : List ℕ) (end i : ℕ) : Type 0 where
  pub space : end + (length list - i) ≤ length names
  pub goes : take end names ++ others_by g ids (at counts) (drop i list) ≡ take tail names₀ ++ others_by g ids (at counts) list
  pub count : end + length (others_by g ids (at counts) (drop i list)) ≡ tail + length (others_by g ids (at counts) list)

module _ (list ids counts names₀ : List ℕ) (g tail : ℕ) where
  module _ (names : List ℕ) (end i : ℕ) (inv : Naming list ids counts names₀ g tail names end i) where
    pub naming_last : drop i list ≡ [] → (end ≡ tail + length (others_by g ids (at counts) list)) × (take end names ≡ take tail names₀ ++ others_by g ids (at counts) list)
    unfolding others_by
    naming_last e = (omega (arith, rw e at inv.count), sym (append-nil (take end names)) ∙ rw e at inv.goes)

    module _ (h : i < length list) where
      abbrev o : ℕ
      o = get_or ids (get_or list i 0) 0

      skips : others_by g ids (at counts) (get_or list i 0 ∷ drop (i + 1) list) ≡ others_by g ids (at counts) (drop (i + 1) list) → Naming list ids counts names₀ g tail names end (i + 1)
      skips e =
          let step : others_by g ids (at counts) (drop i list) ≡ others_by g ids (at counts) (drop (i + 1) list) = ap (others_by g ids (at counts)) (drop_more list i 0 h) ∙ e in
          record { space = omega (arith, inv.space); goes = rw (← step) inv.goes; count = rw (← step) inv.count }

      pub naming_same : o ≡ g → Naming list ids counts names₀ g tail names end (i + 1)
      naming_same e = skips (others_same g ids (at counts) (get_or list i 0) (drop (i + 1) list) e)

      pub naming_empty : (o ≡ g → ⊥) → at counts o ≡ 0 → Naming list ids counts names₀ g tail names end (i + 1)
      naming_empty d e = skips (others_empty g ids (at counts) (get_or list i 0) (drop (i + 1) list) d e)

      pub naming_takes : (o ≡ g → ⊥) → (at counts o ≡ 0 → ⊥) → Naming list ids counts names₀ g tail (set names end o) (end + 1) (i + 1)
      naming_takes d e =
          let rest = others_by g ids (at counts) (drop (i + 1) list) in
          let step : others_by g ids (at counts) (drop i list) ≡ o ∷ rest = ap (others_by g ids (at counts)) (drop_more list i 0 h) ∙ others_takes g ids (at counts) (get_or list i 0) (drop (i + 1) list) d e in
          record {
            space = simp length-set (omega (arith, inv.space));
            goes = rw (add-one end, take-suc-set names end o (omega (arith, inv.space))) (append_snoc (take end names) o rest ∙ rw step at inv.goes);
            count = omega (arith, ap length step, inv.count);
          }
