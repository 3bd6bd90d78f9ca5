-- Every accepted setup fits its record: cause 26 does not come back. Of its clauses one counts: a transfer row has no more weights than entries, and one, because every weight
-- that is not zero stands at the row's own coarse column or at that of an entry.
use mathlib.Core.Path.{◌≡◌, sym, ap, ◌∙◌, subst}
use mathlib.Core.Bool.{Bool, true, false, not, ◌&&◌}
use mathlib.Core.List.{List, [], ◌++◌, map, flat_map, append-nil}
use Prim.Native.Nat.{ℕ, suc, ◌+◌, ◌-◌, ◌*◌, ◌^◌, ◌≤◌, ◌<◌}
use native.Mathlib.Nat.{le_trans, div-le_self, mul-le-mul}
use native.Mathlib.Omega.{arith}
use lib.Dec.{T, leb, ltb, eqb, leb→le, le→leb, lt→ltb}
use lib.ListN.{length, get_or, length-append}
use lib.Ieee.{Float, ne}
use lib.Ieee.Fits.{and_i, and_l, and_r, eq→eqb}
use Rattle.definitions.specs.Lists.{all, falls, pointers_from}
use Rattle.definitions.specs.Numbers.{zeroᶠ}
use Rattle.definitions.specs.Refusal.{done}
use Rattle.definitions.specs.Matrix.{Matrix, Entry, max_rows, max_entries}
use Rattle.definitions.specs.Block.{max_block}
use Rattle.definitions.specs.Groups.{max_group}
use Rattle.definitions.specs.Transfer.{weight_at, transfer_row, transfer_of}
use Rattle.definitions.specs.Coarse.{resolved, coarse_part, coarse_length}
use Rattle.definitions.specs.Places.{node_count, entry_needs, coarse_needs, covers, ids_in, columns_in, used_ints, used_floats}
use Rattle.definitions.specs.Setup.{max_coarse, Transfer, transfer_for, transfer_ints, transfer_floats, built_from, setup_of}
use Rattle.definitions.specs.Fits.{within_limits, is_resolved, transfers_fit, transfer_fits, setup_fits}
use Rattle.definitions.specs.Apply.{ample}
use Rattle.definitions.specs.declared.Options.{Options}
use Rattle.definitions.specs.declared.TwoLevelBasis.{TwoLevelBasis}
use Rattle.definitions.specs.declared.TwoLevelBasis.TheVariants.{PiecewiseConstant, JacobiSmoothed}
use Rattle.definitions.specs.declared.TwoLevelCoarseApplyPolicy.{TwoLevelCoarseApplyPolicy}
use Rattle.definitions.specs.declared.TwoLevelCoarseApplyPolicy.TheVariants.{Auto, FactorSolve, ExplicitInverse}
use Rattle.laws.proofs.Lists.{Each, each_imp, each_map, each_flat_map, each_keep, each_tab, all_each}
use Rattle.laws.proofs.Csr.{columns_of, numbers_of, columns_length, values_length, pointers_length, pointers_first, pointers_last, pointers_rise}
use Rattle.laws.proofs.Counting.{rises_at, rows_within}
use Rattle.laws.proofs.GroupIds.{ids_below}
use Rattle.laws.proofs.SetupLists.{pointers_read, columns_read}
use Rattle.laws.proofs.TransferRows.{row_short, entries_short}
use Rattle.separation.proofs.Stages.{Sound, Stages, dimension, built, sound, accepts}
use Rattle.separation.proofs.ApplyApart.{constant_weights, smoothed_weights, policy_by}
use Rattle.separation.proofs.Places.{weights_count, ids_read, ids_many, factors_many, coarse_many}

-- ---- how many weights

pub weights_bound : (a : Matrix) (o : Options) → Sound a o → (ids : List ℕ) (c : ℕ) (t : Transfer) → transfer_for JacobiSmoothed a o.block ids c ≡ done t
    → length (transfer_floats t.weights) ≤ a.rows + length a.values
unfolding transfer_floats transfer_of
weights_bound a o S ids c t e =
    let w = smoothed_weights a o.block ids c t e in
    let f = transfer_row a w.0 w.1 o.block ids c in
    subst (λ (n : ℕ). n ≤ a.rows + length a.values) (sym (values_length t.weights ∙ ap (λ (ws : List (List Entry)). length (flat_map (λ row. row) ws)) w.2))
    (le_trans (rows_within f (λ i. get_or a.row_ptr i 0) a.rows
    (λ i l. rises_at a.row_ptr i S.ptr_rises (subst (λ (n : ℕ). suc i < n) (sym S.ptr_length) (up i a.rows l)))
    (λ i l. le_trans (row_short a o.block ids w.0 w.1 c i) (step (entries_short a i)))).0
    (last a.rows (get_or a.row_ptr a.rows 0) (get_or a.row_ptr 0 0) (length a.values) S.ptr_last))
  where
    up : (x y : ℕ) → x < y → suc x < y + 1
    up x y l = omega arith

    step : {x y : ℕ} → x ≤ y → suc x ≤ suc y
    step l = (native.Mathlib.Nat.suc-le-suc_iff).1 l

    last : (n x y z : ℕ) → x ≡ z → n + (x - y) ≤ n + z
    last n x y z k = omega arith

pub columns_small : (a : Matrix) (size : ℕ) (ids : List ℕ) (c : ℕ) (t : Transfer) → transfer_for JacobiSmoothed a size ids c ≡ done t → Each (λ x. x < c) (columns_of t.weights)
unfolding transfer_of transfer_row
columns_small a size ids c t e =
    let w = smoothed_weights a size ids c t e in
    subst (λ (ws : List (List Entry)). Each (λ x. x < c) (columns_of ws)) (sym w.2)
    (each_flat_map (λ row. map (λ e. e.col) row) (each_tab (transfer_row a w.0 w.1 size ids c) a.rows
    (λ i l. each_map (λ e. e.col) (each_keep (λ e. ne e.value zeroᶠ) (each_tab (λ j. record { col = j; value = weight_at a w.0 w.1 size ids i j }) c (λ j m u. m))))))

-- ---- the clauses of 26

all_of : (b1 b2 b3 b4 b5 b6 b7 b8 b9 b10 : Bool) → T b1 → T b2 → T b3 → T b4 → T b5 → T b6 → T b7 → T b8 → T b9 → T b10
    → T (b1 && b2 && b3 && b4 && b5 && b6 && b7 && b8 && b9 && b10)
all_of b1 b2 b3 b4 b5 b6 b7 b8 b9 b10 t1 t2 t3 t4 t5 t6 t7 t8 t9 t10 =
    and_i (b1 && b2 && b3 && b4 && b5 && b6 && b7 && b8 && b9) b10 (and_i (b1 && b2 && b3 && b4 && b5 && b6 && b7 && b8) b9 (and_i (b1 && b2 && b3 && b4 && b5 && b6 && b7) b8
    (and_i (b1 && b2 && b3 && b4 && b5 && b6) b7 (and_i (b1 && b2 && b3 && b4 && b5) b6 (and_i (b1 && b2 && b3 && b4) b5 (and_i (b1 && b2 && b3) b4 (and_i (b1 && b2) b3 (and_i b1 b2 t1 t2) t3) t4) t5) t6) t7) t8) t9) t10

is_resolved_lem : (policy : TwoLevelCoarseApplyPolicy) (c : ℕ) → T (is_resolved (resolved policy c))
unfolding resolved is_resolved
is_resolved_lem Auto c = go (ltb c 1_024)
  where
    go : (b : Bool) → T (is_resolved (elim b [ true ↦ FactorSolve | false ↦ ExplicitInverse ]))
    go true = tt
    go false = tt
is_resolved_lem FactorSolve c = tt
is_resolved_lem ExplicitInverse c = tt

module _ {a : Matrix} {o : Options} (s : Stages a o) (zs : List ℕ) (fs : List Float) where
  limits : T (within_limits (built s).setup)
  unfolding within_limits built_from
  limits =
      let b1 = leb a.rows max_rows in
      let b2 = leb (length a.values) max_entries in
      let b3 = leb o.block max_block in
      let b4 = leb o.group max_group in
      and_i (b1 && b2 && b3 && b4) (leb (dimension s) max_coarse) (and_i (b1 && b2 && b3) b4 (and_i (b1 && b2) b3
      (and_i b1 b2 (le→leb a.rows max_rows (sound s).rows_limit) (le→leb (length a.values) max_entries (sound s).entries_limit)) (le→leb o.block max_block (sound s).block_limit)) (le→leb o.group max_group (sound s).group_limit)) s.small

  transfers : (basis : TwoLevelBasis) → transfer_for basis a o.block s.groups.ids (dimension s) ≡ done s.transfer → T (transfers_fit basis (built s).setup)
  unfolding transfers_fit built_from transfer_floats flat_map
  transfers PiecewiseConstant e = eq→eqb (ap (λ (ws : List (List Entry)). length (numbers_of ws)) (constant_weights a o.block s.groups.ids (dimension s) s.transfer e))
  transfers JacobiSmoothed e = le→leb (length (transfer_floats s.transfer.weights)) (a.rows + length a.values) (weights_bound a o (sound s) s.groups.ids (dimension s) s.transfer e)

  ints_long : (basis : TwoLevelBasis) → transfer_for basis a o.block s.groups.ids (dimension s) ≡ done s.transfer
      → used_ints basis (built s).setup ≤ length ((s.groups.ids ++ transfer_ints basis s.transfer.weights) ++ zs)
  unfolding used_ints built_from transfer_ints transfer_floats
  ints_long PiecewiseConstant e =
      let ids = s.groups.ids in
      subst (λ (n : ℕ). node_count a o ≤ n) (sym (length-append (ids ++ []) zs ∙ ap (λ (l : List ℕ). length l + length zs) (append-nil ids) ∙ ap (λ (n : ℕ). n + length zs) (ids_many s zs fs))) (more (node_count a o) (length zs))
    where
      more : (x y : ℕ) → x ≤ x + y
      more x y = omega arith
  ints_long JacobiSmoothed e =
      let ids = s.groups.ids in
      let ws = s.transfer.weights in
      subst (λ (n : ℕ). node_count a o + a.rows + 1 + length (numbers_of ws) ≤ n)
      (sym (length-append (ids ++ (pointers_from 0 ws ++ columns_of ws)) zs ∙ ap (λ (n : ℕ). n + length zs) (length-append ids (pointers_from 0 ws ++ columns_of ws) ∙ ap (λ (n : ℕ). length ids + n) (length-append (pointers_from 0 ws) (columns_of ws)))))
      (more (node_count a o) a.rows (length (numbers_of ws)) (length ids) (length (pointers_from 0 ws)) (length (columns_of ws)) (length zs) (ids_many s zs fs)
      (pointers_length 0 ws ∙ ap suc (weights_count a o.block ids (dimension s) s.transfer e)) (columns_length ws ∙ sym (values_length ws)))
    where
      more : (n r v i p c z : ℕ) → i ≡ n → p ≡ suc r → c ≡ v → n + r + 1 + v ≤ i + (p + c) + z
      more n r v i p c z h g k = omega arith

  floats_long : used_floats (built s).setup ≤ length ((built s).floats ++ fs)
  unfolding used_floats built_from
  floats_long =
      let vs = transfer_floats s.transfer.weights in
      let cp = coarse_part (policy_by s) (dimension s) s.factor in
      subst (λ (n : ℕ). a.rows * o.block + length vs + coarse_length (policy_by s) (dimension s) ≤ n)
      (sym (length-append (s.factors ++ vs ++ cp) fs ∙ ap (λ (n : ℕ). n + length fs) (length-append (s.factors ++ vs) cp ∙ ap (λ (n : ℕ). n + length cp) (length-append s.factors vs))))
      (more (a.rows * o.block) (length vs) (coarse_length (policy_by s) (dimension s)) (length s.factors) (length cp) (length fs) (factors_many s zs fs) (coarse_many s zs fs))
    where
      more : (n v k f c z : ℕ) → f ≡ n → c ≡ k → n + v + k ≤ f + v + c + z
      more n v k f c z h g = omega arith

  ids_fit : T (all (λ g. ltb g s.groups.count) (ids_in (built s).setup ((built s).ints ++ zs)))
  ids_fit =
      subst (λ (l : List ℕ). T (all (λ g. ltb g s.groups.count) l)) (sym (ids_read s zs fs))
      (all_each (λ g. ltb g s.groups.count) (each_imp (λ g h. lt→ltb g s.groups.count h) (ids_below a o s.groups o.aggregation (sound s).group_some s.grouped)))

  transfer_fits_lem : (basis : TwoLevelBasis) → transfer_for basis a o.block s.groups.ids (dimension s) ≡ done s.transfer
      → T (transfer_fits basis (built s).setup ((s.groups.ids ++ transfer_ints basis s.transfer.weights) ++ zs))
  unfolding transfer_fits built_from transfer_floats
  transfer_fits_lem PiecewiseConstant e = tt
  transfer_fits_lem JacobiSmoothed e =
      let ids = s.groups.ids in
      let ws = s.transfer.weights in
      let q = weights_count a o.block ids (dimension s) s.transfer e in
      subst (λ (l : List ℕ). T (eqb (get_or l 0 1) 0 && not (falls l) && eqb (get_or l a.rows 0) (length (transfer_floats ws)) && all (λ c. ltb c (dimension s)) (columns_in (built s).setup ((ids ++ transfer_ints JacobiSmoothed ws) ++ zs))))
      (sym (pointers_read ids zs ws (node_count a o) a.rows (ids_many s zs fs) q))
      (subst (λ (l : List ℕ). T (eqb (get_or (pointers_from 0 ws) 0 1) 0 && not (falls (pointers_from 0 ws)) && eqb (get_or (pointers_from 0 ws) a.rows 0) (length (transfer_floats ws)) && all (λ c. ltb c (dimension s)) l))
      (sym (columns_read ids zs ws (node_count a o) a.rows (ids_many s zs fs) q))
      (four ws q (columns_small a o.block ids (dimension s) s.transfer e)))
    where
      four : (ws : List (List Entry)) → length ws ≡ a.rows → Each (λ x. x < dimension s) (columns_of ws)
          → T (eqb (get_or (pointers_from 0 ws) 0 1) 0 && not (falls (pointers_from 0 ws)) && eqb (get_or (pointers_from 0 ws) a.rows 0) (length (transfer_floats ws)) && all (λ c. ltb c (dimension s)) (columns_of ws))
      four ws q k =
          let b1 = eqb (get_or (pointers_from 0 ws) 0 1) 0 in
          let b2 = not (falls (pointers_from 0 ws)) in
          let b3 = eqb (get_or (pointers_from 0 ws) a.rows 0) (length (transfer_floats ws)) in
          and_i (b1 && b2 && b3) (all (λ c. ltb c (dimension s)) (columns_of ws)) (and_i (b1 && b2) b3 (and_i b1 b2 (eq→eqb (pointers_first 0 1 ws)) (pointers_rise 0 ws))
          (eq→eqb (ap (λ (n : ℕ). get_or (pointers_from 0 ws) n 0) (sym q) ∙ pointers_last 0 0 ws ∙ plain (length (flat_map (λ row. row) ws)) ∙ sym (values_length ws))))
          (all_each (λ c. ltb c (dimension s)) (each_imp (λ c h. lt→ltb c (dimension s) h) k))
        where
          plain : (x : ℕ) → 0 + x ≡ x
          plain x = omega arith

  -- CAUSE 26 DOES NOT COME BACK
  pub setup_fits_lem : T (setup_fits (built s).setup ((built s).ints ++ zs) ((built s).floats ++ fs))
  unfolding setup_fits built_from
  setup_fits_lem =
      all_of (within_limits (built s).setup) (leb 1 o.block) (is_resolved (policy_by s)) (transfers_fit o.basis (built s).setup) (eqb a.rows (node_count a o * o.block)) (eqb (dimension s) (dimension s))
      (leb (used_ints o.basis (built s).setup) (length ((built s).ints ++ zs))) (leb (used_floats (built s).setup) (length ((built s).floats ++ fs)))
      (all (λ g. ltb g s.groups.count) (ids_in (built s).setup ((built s).ints ++ zs))) (transfer_fits o.basis (built s).setup ((built s).ints ++ zs))
      limits (le→leb 1 o.block (sound s).block_some) (is_resolved_lem o.policy (dimension s)) (transfers o.basis s.transferred) (eq→eqb (sym (sound s).whole)) (lib.Dec.eqb_refl (dimension s))
      (le→leb (used_ints o.basis (built s).setup) (length ((built s).ints ++ zs)) (ints_long o.basis s.transferred)) (le→leb (used_floats (built s).setup) (length ((built s).floats ++ fs)) floats_long)
      ids_fit (transfer_fits_lem o.basis s.transferred)

-- ---- ample lists are long enough for 13 and 18

module _ {a : Matrix} {o : Options} (s : Stages a o) where
  coarse_covered : T (covers ample (coarse_needs (dimension s) (entry_needs a o)))
  unfolding covers coarse_needs entry_needs
  coarse_covered =
      let n = a.rows in
      let e = length a.values in
      let c = dimension s in
      let cl : c ≤ max_coarse = leb→le c max_coarse s.small in
      let cc2 : c * c ≤ max_coarse * max_coarse = mul-le-mul cl cl in
      let nb : n * o.block ≤ max_rows * max_block = mul-le-mul (sound s).rows_limit (sound s).block_limit in
      let nodes : node_count a o ≤ n = div-le_self n o.block in
      let rl = (sound s).rows_limit in
      let el = (sound s).entries_limit in
      let b1 = leb (node_count a o + 2 * n + e + 1) (2 ^ 32) in
      let b2 = leb (n * o.block + n + e + c * c) (2 ^ 32) in
      let b3 = leb (8 * n + 4 * e + 16 + 4 * c) (2 ^ 32) in
      let b4 = leb (8 * n + 2 * e + (c * c + 4 * c)) (2 ^ 32) in
      and_i (b1 && b2 && b3) b4 (and_i (b1 && b2) b3 (and_i b1 b2 (le→leb (node_count a o + 2 * n + e + 1) (2 ^ 32) (first (node_count a o) n e nodes rl el)) (le→leb (n * o.block + n + e + c * c) (2 ^ 32) (second (n * o.block) n e (c * c) nb rl el cc2)))
      (le→leb (8 * n + 4 * e + 16 + 4 * c) (2 ^ 32) (third n e c rl el cl))) (le→leb (8 * n + 2 * e + (c * c + 4 * c)) (2 ^ 32) (fourth n e c (c * c) rl el cl cc2))
    where
      first : (k n e : ℕ) → k ≤ n → n ≤ max_rows → e ≤ max_entries → k + 2 * n + e + 1 ≤ 2 ^ 32
      first k n e h g f = omega arith

      second : (k n e d : ℕ) → k ≤ max_rows * max_block → n ≤ max_rows → e ≤ max_entries → d ≤ max_coarse * max_coarse → k + n + e + d ≤ 2 ^ 32
      second k n e d h g f l = omega arith

      third : (n e c : ℕ) → n ≤ max_rows → e ≤ max_entries → c ≤ max_coarse → 8 * n + 4 * e + 16 + 4 * c ≤ 2 ^ 32
      third n e c g f l = omega arith

      fourth : (n e c d : ℕ) → n ≤ max_rows → e ≤ max_entries → c ≤ max_coarse → d ≤ max_coarse * max_coarse → 8 * n + 2 * e + (d + 4 * c) ≤ 2 ^ 32
      fourth n e c d g f l m = omega arith

  front_covered : T (covers ample (entry_needs a o))
  unfolding covers coarse_needs entry_needs
  front_covered =
      let n = a.rows in
      let e = length a.values in
      let c = dimension s in
      let i1 = leb (node_count a o + 2 * n + e + 1) (2 ^ 32) in
      let i2 = leb (n * o.block + n + e + c * c) (2 ^ 32) in
      let i3 = leb (8 * n + 4 * e + 16 + 4 * c) (2 ^ 32) in
      let i4 = leb (8 * n + 2 * e + (c * c + 4 * c)) (2 ^ 32) in
      let b2 = leb (n * o.block + n + e) (2 ^ 32) in
      let b3 = leb (8 * n + 4 * e + 16) (2 ^ 32) in
      let b4 = leb (8 * n + 2 * e) (2 ^ 32) in
      let t = coarse_covered in
      let t3 = and_l (i1 && i2 && i3) i4 t in
      let t2 = and_l (i1 && i2) i3 t3 in
      and_i (i1 && b2 && b3) b4 (and_i (i1 && b2) b3 (and_i i1 b2 (and_l i1 i2 t2) (fewer (n * o.block + n + e) (c * c) (and_r i1 i2 t2))) (fewer (8 * n + 4 * e + 16) (4 * c) (and_r (i1 && i2) i3 t3)))
      (fewer (8 * n + 2 * e) (c * c + 4 * c) (and_r (i1 && i2 && i3) i4 t))
    where
      drop_second : (x y m : ℕ) → x + y ≤ m → x ≤ m
      drop_second x y m h = omega arith

      fewer : (x y : ℕ) → T (leb (x + y) (2 ^ 32)) → T (leb x (2 ^ 32))
      fewer x y h = le→leb x (2 ^ 32) (drop_second x y (2 ^ 32) (leb→le (x + y) (2 ^ 32) h))

  -- ample lists give what any lists that are long enough give
  pub ample_accepts : setup_of a o ample ≡ done (built s)
  ample_accepts = accepts s ample front_covered coarse_covered
