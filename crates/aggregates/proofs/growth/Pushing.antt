-- The loop of `push_free`: the groups and the queue, with what is still to be queued, stay the same.
use mathlib.Core.Path.{◌≡◌, ap, sym, ◌∙◌}
use mathlib.Core.List.{List, [], ◌∷◌, ◌++◌, append-nil}
use Prim.Native.Nat.{ℕ, suc, ◌+◌, ◌-◌, ◌≤◌, ◌<◌}
use native.Mathlib.Omega.{arith}
use native.Mathlib.Numerals.{add-one}
use lib.ListN.{length, get_or, set, take, drop, length-set}
use lib.Seq.{drop-cons, take-suc-set, append_snoc}
use Rattle.definitions.specs.Groups.{relabelled}
use Rattle.aggregates.specs.Growth.{enqueued, Pushed}
use Rattle.aggregates.proofs.growth.Enqueued.{enqueued_full, enqueued_none, enqueued_takes, enqueued_skips}

-- what has joined, and what of the list from i on is still to join, in a group of which `end` nodes wait
pub record Pushing (list ids₀ queue₀ : List ℕ) (g tail size : ℕ) (ids queue : List ℕ) (end i : ℕ) : Type 0 where
  pub space : end + (length list - i) ≤ length queue
  pub fits : end ≤ size
  pub count : end + length (enqueued g (size - end) ids (drop i list)) ≡ tail + length (enqueued g (size - tail) ids₀ list)
  pub ids_go : relabelled g (enqueued g (size - end) ids (drop i list)) ids ≡ relabelled g (enqueued g (size - tail) ids₀ list) ids₀
  pub queue_goes : take end queue ++ enqueued g (size - end) ids (drop i list) ≡ take tail queue₀ ++ enqueued g (size - tail) ids₀ list

module _ (list ids₀ queue₀ : List ℕ) (g tail size : ℕ) where
  module _ (ids queue : List ℕ) (end i : ℕ) (inv : Pushing list ids₀ queue₀ g tail size ids queue end i) where
    module _ (h : i < length list) (u : ℕ) (is : u ≡ get_or list i 0) where
      front : drop i list ≡ u ∷ drop (i + 1) list
      front = rw (add-one, is) (drop-cons list i 0 h)

      pub push_takes : get_or ids u 0 ≡ 0 → (end ≡ size → ⊥) → Pushing list ids₀ queue₀ g tail size (set ids u g) (set queue end u) (end + 1) (i + 1)
      unfolding relabelled
      push_takes z some =
          let r : size - end ≡ suc (size - suc end) = omega (arith, some, inv.fits) in
          let next = enqueued g (size - suc end) (set ids u g) (drop (i + 1) list) in
          let e : enqueued g (size - end) ids (drop i list) ≡ u ∷ next = ap (λ m. enqueued g m ids (drop i list)) r ∙ ap (enqueued g (suc (size - suc end)) ids) front ∙ enqueued_takes g (size - suc end) ids u (drop (i + 1) list) z in
          record {
            space = simp length-set (omega (arith, inv.space));
            fits = omega (arith, some, inv.fits);
            count = rw (add-one end) (omega (arith, rw e at inv.count));
            ids_go = rw (add-one end) (rw e at inv.ids_go);
            queue_goes = rw (add-one end, take-suc-set queue end u (omega (arith, inv.space))) (append_snoc (take end queue) u next ∙ (rw e at inv.queue_goes));
          }

      pub push_skips : (get_or ids u 0 ≡ 0 → ⊥) → Pushing list ids₀ queue₀ g tail size ids queue end (i + 1)
      push_skips z =
          let e : enqueued g (size - end) ids (drop i list) ≡ enqueued g (size - end) ids (drop (i + 1) list) = ap (enqueued g (size - end) ids) front ∙ enqueued_skips g (size - end) ids u (drop (i + 1) list) z in
          record {
            space = omega (arith, inv.space);
            fits = inv.fits;
            count = rw e at inv.count;
            ids_go = rw e at inv.ids_go;
            queue_goes = rw e at inv.queue_goes;
          }

    push_done : enqueued g (size - end) ids (drop i list) ≡ [] → Pushed (enqueued g (size - tail) ids₀ list) g tail ids₀ ids queue₀ queue end
    unfolding relabelled
    push_done e = record {
      count = omega (arith, rw e at inv.count);
      joined = rw e at inv.ids_go;
      waits = sym (append-nil (take end queue)) ∙ (rw e at inv.queue_goes);
    }

    pub push_full : end ≡ size → Pushed (enqueued g (size - tail) ids₀ list) g tail ids₀ ids queue₀ queue end
    push_full z = let none : size - end ≡ 0 = omega arith in push_done (ap (λ m. enqueued g m ids (drop i list)) none ∙ enqueued_full g ids (drop i list))

    pub push_last : drop i list ≡ [] → Pushed (enqueued g (size - tail) ids₀ list) g tail ids₀ ids queue₀ queue end
    push_last e = push_done (ap (enqueued g (size - end) ids) e ∙ enqueued_none g (size - end) ids)
