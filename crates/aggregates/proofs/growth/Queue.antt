-- The loop of `grow_group`: what the group still takes in, with the queue's nodes in it already, stays the same. The queue has room: the lists of its nodes and of nodes in no group are still to come.
use Rattle.std.specs.List.{sum_by}
use Rattle.std.proofs.lemmas.List.Sums.{sum_by-cons, sum_by-append}
use mathlib.Core.Path.{◌≡◌, ap, sym, ◌∙◌}
use mathlib.Core.List.{List, [], ◌∷◌, ◌++◌}
use Prim.Native.Nat.{ℕ, suc, ◌+◌, ◌-◌, ◌≤◌, ◌<◌}
use native.Mathlib.Omega.{arith}
use native.Mathlib.Numerals.{add-one}
use lib.ListN.{length, get_or, set, take, drop, length-set}
use lib.Seq.{slice, slice_empty, slice-cons, length-slice, length-take-le, drop-append-le, take-suc-set}
use Rattle.definitions.specs.Groups.{grow_group, listed, relabelled, no_anchor}
use Rattle.laws.proofs.Lists.{Each, none, more, each_head, each_tail, each_append}
use Rattle.aggregates.specs.Lists.{Lists}
use Rattle.aggregates.specs.Growth.{Pushed, enqueued}
use Rattle.aggregates.proofs.NodeLists.{spare, degree, spare_set, spare_within, offset_within, each_part}
use Rattle.aggregates.proofs.growth.Enqueued.{enqueued_few, enqueued_short, each_enqueued, enqueued_spare}
use Rattle.aggregates.proofs.growth.Queued.{queued, queued_full, queued_ends, queued_turn, grow_seeded}

pub record Queue (offsets nb : List ℕ) (n : ℕ) (ids₀ : List ℕ) (seed g size : ℕ) (ids queue : List ℕ) (head tail : ℕ) : Type 0 where
  pub ok : Lists n offsets nb
  pub pos : 0 < g
  pub long : length ids ≡ n
  pub fits : length nb < length queue
  pub order : head ≤ tail
  pub sized : tail ≤ size
  pub space : tail + (sum_by (degree offsets) (slice head tail queue) + spare (degree offsets) 0 ids) ≤ length nb + 1
  pub nodes : Each (λ x. x < n) (slice head tail queue)
  pub goes : queued (listed offsets nb) g (size - head) (size - tail) ids (slice head tail queue) ≡ grow_group (listed offsets nb) no_anchor g size ids₀ (seed ∷ [])

-- the seed alone waits
pub queue_first : (offsets nb : List ℕ) (n : ℕ) (ids queue : List ℕ) (seed g size : ℕ) → Lists n offsets nb → 0 < g → length ids ≡ n → length nb < length queue → seed < n → get_or ids seed 0 ≡ 0 → 0 < size → Queue offsets nb n ids seed g size (set ids seed g) (set queue 0 seed) 0 1
queue_first offsets nb n ids queue seed g size ok pos long fits h z some =
    let e : slice 0 1 (set queue 0 seed) ≡ seed ∷ [] = take-suc-set queue 0 seed (omega arith) in
    let zv : 0 + seed ≡ seed = omega arith in
    let spent = rw zv at (spare_set (degree offsets) 0 ids seed g (omega arith) z pos) in
    let r : size ≡ suc (size - 1) = omega (arith, some) in
    let turns : size - 0 ≡ size = omega arith in
    record {
      ok = ok;
      pos = pos;
      long = length-set ids seed g ∙ long;
      fits = simp length-set fits;
      order = omega arith;
      sized = omega arith;
      space = rw e (omega (arith, spent, spare_within n offsets nb ok ids long));
      nodes = rw e (more h none);
      goes = rw (e, turns) (ap (λ k. queued (listed offsets nb) g k (size - 1) (set ids seed g) (seed ∷ [])) r ∙ sym (ap (λ k. grow_group (listed offsets nb) no_anchor g k ids (seed ∷ [])) r ∙ grow_seeded (listed offsets nb) g (size - 1) ids seed pos z));
    }

-- what the queue's nodes and the free ones still need
spent_space : (tail end dv dq dn free free' k b : ℕ) → end ≡ tail + k → k ≤ dv → dn + free' ≡ free → tail + ((dv + dq) + free) ≤ b → end + ((dq + dn) + free') ≤ b
spent_space tail end dv dq dn free free' k b e f g h = omega arith

module _ {offsets nb : List ℕ} {n : ℕ} {ids₀ : List ℕ} {seed g size : ℕ} {ids queue : List ℕ} {head tail : ℕ} (inv : Queue offsets nb n ids₀ seed g size ids queue head tail) where
  pub queue_full : size ≤ tail → ids ≡ grow_group (listed offsets nb) no_anchor g size ids₀ (seed ∷ [])
  queue_full h = let none : size - tail ≡ 0 = omega arith in sym (queued_full (listed offsets nb) g (size - head) ids (slice head tail queue)) ∙ (rw none at inv.goes)

  pub queue_last : tail ≤ head → ids ≡ grow_group (listed offsets nb) no_anchor g size ids₀ (seed ∷ [])
  queue_last h =
      let e : tail ≡ head = omega (arith, inv.order) in
      let none : slice head tail queue ≡ [] = rw e (slice_empty head queue) in
      sym (queued_ends (listed offsets nb) g (size - head) (size - tail) ids) ∙ (rw none at inv.goes)

  pub queue_ends : tail ≤ length queue
  queue_ends = omega (arith, inv.space, inv.fits)

  module _ (h : head < tail) (v : ℕ) (vis : v ≡ get_or queue head 0) where
    first : slice head tail queue ≡ v ∷ slice (head + 1) tail queue
    first = rw (vis, add-one) (slice-cons head tail queue 0 h queue_ends)

    pub queue_node : v < n
    queue_node = each_head (rw first at inv.nodes)

    space_now : tail + ((degree offsets v + sum_by (degree offsets) (slice (head + 1) tail queue)) + spare (degree offsets) 0 ids) ≤ length nb + 1
    space_now = omega (arith, inv.space, ap (sum_by (degree offsets)) first ∙ sum_by-cons (degree offsets) v (slice (head + 1) tail queue))

    ends : get_or offsets (suc v) 0 ≤ length nb
    ends = offset_within n offsets nb inv.ok (suc v) queue_node

    pub queue_each : Each (λ x. x < length ids) (listed offsets nb v)
    unfolding listed
    queue_each = rw inv.long (each_part (λ x. x < n) (get_or offsets v 0) (get_or offsets (suc v) 0) nb ends inv.ok.within)

    long_is : length (listed offsets nb v) ≡ degree offsets v
    unfolding listed
    long_is = length-slice (get_or offsets v 0) (get_or offsets (suc v) 0) nb ends

    pub queue_space : tail + length (listed offsets nb v) ≤ length queue
    queue_space = omega (arith, space_now, inv.fits, long_is)

    module _ {ids' queue' : List ℕ} {end : ℕ} (p : Pushed (enqueued g (size - tail) ids (listed offsets nb v)) g tail ids ids' queue queue' end) where
      pub queue_takes : length ids' ≡ length ids → length queue' ≡ length queue → Queue offsets nb n ids₀ seed g size ids' queue' (head + 1) end
      queue_takes same qsame =
          let new = enqueued g (size - tail) ids (listed offsets nb v) in
          let short : length new ≤ degree offsets v = omega (arith, enqueued_short g (size - tail) ids (listed offsets nb v), long_is) in
          let few = enqueued_few g (size - tail) ids (listed offsets nb v) in
          let spent : sum_by (degree offsets) new + spare (degree offsets) 0 (relabelled g new ids) ≡ spare (degree offsets) 0 ids = enqueued_spare g (degree offsets) (size - tail) ids (listed offsets nb v) inv.pos queue_each in
          let waits : slice (head + 1) end queue' ≡ slice (head + 1) tail queue ++ new =
          ap (drop (head + 1)) p.waits ∙ drop-append-le (head + 1) (take tail queue) new (rw (length-take-le tail queue queue_ends) (omega arith)) in
          let count : end ≡ tail + length new = p.count in
          let left : size - end ≡ (size - tail) - length new = omega arith in
          let turn : size - head ≡ suc (size - (head + 1)) = omega (arith, inv.sized) in
          record {
            ok = inv.ok;
            pos = inv.pos;
            long = same ∙ inv.long;
            fits = rw qsame inv.fits;
            order = omega arith;
            sized = omega (arith, inv.sized);
            space = rw (waits, p.joined, sum_by-append (degree offsets) (slice (head + 1) tail queue) new) (spent_space tail end (degree offsets v) (sum_by (degree offsets) (slice (head + 1) tail queue)) (sum_by (degree offsets) new) (spare (degree offsets) 0 ids) (spare (degree offsets) 0 (relabelled g new ids)) (length new) (length nb + 1) count short spent space_now);
            nodes = rw waits (each_append (each_tail (rw first at inv.nodes)) (each_enqueued g (λ x. x < n) (size - tail) ids (listed offsets nb v) (rw inv.long at queue_each)));
            goes = rw (left, waits, p.joined) (sym (queued_turn (listed offsets nb) g (size - (head + 1)) (size - tail) ids v (slice (head + 1) tail queue)) ∙ (rw (turn, first) at inv.goes));
          }
