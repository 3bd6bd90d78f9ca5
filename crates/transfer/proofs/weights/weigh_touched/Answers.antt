-- The columns and weights that the entries left give stay those of the whole row.
use Prim.Native.Nat.{◌+◌, ◌<◌, ◌≤◌}
use mathlib.Core.Path.{◌≡◌, refl, sym, ap, ◌∙◌}
use mathlib.Core.List.{[], ◌∷◌}
use native.Mathlib.Omega.{arith}
use lib.ListN.{length, get_or, set, take, length-set}
use lib.Seq.{slice, length-take-le}
use lib.Ieee.{nan}
use Rattle.definitions.specs.Numbers.{oneᶠ, ◌/ᶠ◌}
use Rattle.definitions.specs.Transfer.{coarse_column}
use Rattle.transfer.specs.Touched.{insert_once, named}
use Rattle.transfer.proofs.Steps.{insert_all, Gathered}
use Rattle.transfer.proofs.Steps.{fresh}
use Rattle.transfer.proofs.Accumulating.{Joined, joined_old, joined_new, onward_step, onward_done, accumulated_row}
use Rattle.transfer.proofs.Ascending.{spread_rising}
use Rattle.transfer.proofs.Inserting.{new_many}
use Rattle.transfer.proofs.Passes.{named_step, named_done}
use Rattle.transfer.proofs.Rowwise.{span}
use Rattle.transfer.proofs.Spreading.{spread_insert, spread_length}
use Rattle.transfer.proofs.Visiting.{take_one, start_spread, visited_named, named_below}
use Rattle.transfer.proofs.weights.weigh_touched.Goals as goal
use Rattle.transfer.proofs.weights.weigh_touched.Goals.{in-Ok, in-Err}

pub loop-k-init : goal.loop-k-init
loop-k-init c =
    let t = c.args.t.now in
    let own = c.column_of-own in
    let lt : own.result < length t = omega (arith, own.ensures.below, c.requires.long.0) in
    let n : length (set t 0 own.result) ≡ c.args.s.now.groups.coarse = length-set t 0 own.result ∙ c.requires.long.0 in
    let o = take_one t own.result (omega arith) in
    record { few = omega (arith, own.ensures.below); spread = rw n at (start_spread t own.result lt); names = rw o; numbers = rw o }

pub find-requires : goal.find-requires
find-requires c = spread_rising _ _ c.loop-k.invariant.spread

pub insert-requires : goal.insert-requires
insert-requires c =
    let l = c.loop-k in
    let j = c.column_of-j in
    let lt : length l.t ≡ c.args.s.now.groups.coarse = l.auto.t ∙ length-set c.args.t.now 0 c.column_of-own.result ∙ c.requires.long.0 in
    let f = length-take-le l.n l.t (omega (arith, l.invariant.few, lt)) in
    let e = c.in-Err.ensures in
    let m = new_many j.result (take l.n l.t) c.in-Err.place e.1 in
    let q = spread_length (insert_once j.result (take l.n l.t)) c.args.s.now.groups.coarse (spread_insert (take l.n l.t) j.result c.args.s.now.groups.coarse l.invariant.spread j.ensures.below) in
    (omega (arith, f, e.0), omega (arith, f, m, q, lt))

pub loop-k-preserved : goal.loop-k-preserved
loop-k-preserved c =
    let s = c.args.s.now in
    let a = s.a in
    let l = c.loop-k in
    let m = c.match-find in
    let j = c.column_of-j in
    let x = j.result in
    let column = coarse_column s.groups.size s.groups.ids.now in
    let inv = oneᶠ /ᶠ get_or s.diagonal.now c.args.i nan in
    let from = get_or a.row_ptr.now c.args.i 0 in
    let to = get_or a.row_ptr.now (c.args.i + 1) 0 in
    let p = span a.rows a.row_ptr.now a.col_idx.now a.values.now a.fits c.args.i from to c.requires.i_lt_rows refl refl in
    let h : l.n ≤ length l.t = omega (arith, l.invariant.few, length-set c.args.t.now 0 c.column_of-own.result, c.requires.long.0) in
    let f = length-take-le l.n l.t h in
    let joined : Joined x l.n l.t l.w m.n m.t m.w = elim m.branch [
      | in-Ok w ↦ joined_old x l.n l.t l.w m.n m.t m.w h w.in-Ok.ensures.1 w.n-is w.t-is w.w-is
      | in-Err w ↦ joined_new x l.n l.t l.w m.n m.t m.w h w.in-Err.place (omega (arith, f, w.in-Err.ensures.0)) w.in-Err.ensures.1 (rw w.t-is w.insert.ensures) w.n-is w.w-is
    ] in
    let spread = spread_insert (take l.n l.t) x s.groups.coarse l.invariant.spread j.ensures.below in
    let idx : to ≤ length a.col_idx.now = omega (arith, p.1, a.fits.same) in
    record {
      few = omega (arith, joined.many, spread_length _ _ spread);
      spread = rw joined.front spread;
      names = rw joined.front (named_step a.col_idx.now column to l.k x (take l.n l.t) (omega arith) idx j.ensures.value ∙ l.invariant.names);
      numbers = rw (joined.front, c.share.ensures) (onward_step a.col_idx.now a.values.now column s.damping inv to l.k x (take l.n l.t) l.w m.w (omega arith) idx p.1 j.ensures.value
          (joined.clear ∙ ap (λ k. fresh k m.n x l.w) (sym f) ∙ ap (λ k. fresh (length (take l.n l.t)) k x l.w) joined.many) ∙ l.invariant.numbers);
    }

pub returns : goal.returns
returns c =
    let s = c.args.s.now in
    let a = s.a in
    let l = c.loop-k in
    let own = c.column_of-own in
    let column = coarse_column s.groups.size s.groups.ids.now in
    let inv = oneᶠ /ᶠ get_or s.diagonal.now c.args.i nan in
    let from = get_or a.row_ptr.now c.args.i 0 in
    let to = get_or a.row_ptr.now (c.args.i + 1) 0 in
    let p = span a.rows a.row_ptr.now a.col_idx.now a.values.now a.fits c.args.i from to c.requires.i_lt_rows refl refl in
    let up : l.k ≤ to = l.auto.k-end p.0 in
    let e : l.k ≡ to = omega (arith, up) in
    let lt : length l.t ≡ s.groups.coarse = l.auto.t ∙ length-set c.args.t.now 0 own.result ∙ c.requires.long.0 in
    let names = named column (slice from to a.col_idx.now) in
    let idx : to ≤ length a.col_idx.now = omega (arith, p.1, a.fits.same) in
    let f : take l.n l.t ≡ insert_all names (own.result ∷ []) = sym (named_done a.col_idx.now column to (take l.n l.t)) ∙ (rw e at l.invariant.names) in
    let w = sym (onward_done a.col_idx.now a.values.now column s.damping inv to (take l.n l.t) l.w) ∙ (rw e at l.invariant.numbers) in
    let b = named_below column a.rows s.groups.coarse from to a.col_idx.now a.fits.within (rw s.same_rows at s.groups.grouped.within) idx in
    let g : Gathered l.t l.n (insert_all names (own.result ∷ [])) = record { front = f; many = sym (ap length (sym f) ∙ length-take-le l.n l.t (omega (arith, l.invariant.few, lt))) } in
    let v = visited_named own.result s.groups.coarse names l.t l.n own.ensures.below b lt l.invariant.few g in
    let r = accumulated_row a.col_idx.now a.values.now column s.damping inv from to own.result a.fits.same p.1 c.args.w.now (omega (arith, own.ensures.below, c.requires.long.1)) (take l.n l.t) l.w f w (l.auto.w ∙ length-set c.args.w.now own.result oneᶠ) in
    record { visited = rw own.ensures.value at v; weights = rw own.ensures.value at r }
