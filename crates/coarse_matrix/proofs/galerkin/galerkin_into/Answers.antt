-- All rows into zeros, averaged; the integers cleared.
use Prim.Native.Nat.{◌*◌}
use mathlib.Core.Path.{◌≡◌, ap, ◌∙◌}
use mathlib.Core.List.{◌++◌}
use native.Mathlib.Omega.{arith}
use lib.ListN.{length, take, drop, replicate, length-append, length-drop}
use lib.Seq.{length-take-le}
use Rattle.definitions.specs.Numbers.{zeroᶠ}
use Rattle.csr32.specs.Seen.{square}
use Rattle.coarse_matrix.specs.Galerkin.{weights_of}
use Rattle.laws.proofs.Squares.{take_zeros}
use Rattle.coarse_matrix.proofs.Product.{galerkin_law}
use Rattle.coarse_matrix.proofs.galerkin.galerkin_into.Goals as goal

pub add_all-requires-clause-cleared : goal.add_all-requires-clause-cleared
add_all-requires-clause-cleared c =
    let a = c.args in
    let n = a.m.now.transfer.cols in
    let i = c.split_at_mut-stamps.ensures in
    let f = c.split_at_mut-coarse.ensures in
    let zi : c.fill.new.self ≡ replicate (length a.ints.now) 0 = c.fill.ensures.after (λ y e. e) in
    let zf : c.fill-2.new.self ≡ replicate (length a.floats.now) zeroᶠ = c.fill-2.ensures.after (λ y e. e) in
    (rw i.front_len (i.front ∙ ap (take n) zi ∙ take_zeros n (length a.ints.now) 0 (omega arith)), f.front ∙ ap (take (n * n)) zf ∙ take_zeros (n * n) (length a.floats.now) zeroᶠ (omega arith))

pub returns : goal.returns
returns c =
    let a = c.args in
    let m = a.m.now in
    let t = m.transfer in
    let n = t.cols in
    let i = c.split_at_mut-stamps.ensures in
    let f = c.split_at_mut-coarse.ensures in
    let d = c.add_all in
    let li : length (d.new.stamps ++ (d.new.touched ++ drop n c.split_at_mut-stamps.result.1.now)) ≡ length a.ints.now =
    omega (arith, length-append d.new.stamps (d.new.touched ++ drop n c.split_at_mut-stamps.result.1.now), length-append d.new.touched (drop n c.split_at_mut-stamps.result.1.now), length-drop n c.split_at_mut-stamps.result.1.now, d.auto.stamps, d.auto.touched, length-take-le n c.split_at_mut-stamps.result.1.now, i.front_len, i.back_len) in
    let rest = d.new.sums ++ drop n c.split_at_mut-coarse.result.1.now in
    let lf : length (d.new.coarse ++ rest) ≡ length a.floats.now =
    omega (arith, length-append d.new.coarse rest, length-append d.new.sums (drop n c.split_at_mut-coarse.result.1.now), length-drop n c.split_at_mut-coarse.result.1.now, d.auto.sums, d.auto.coarse, length-take-le n c.split_at_mut-coarse.result.1.now, f.front_len, f.back_len) in (
      c.fill-3.ensures.after (λ y e. e) ∙ ap (λ k. replicate k 0) li,
      galerkin_law (square m.a) (weights_of t) n (length a.floats.now) d.new.stamps d.new.coarse rest c.average.new.m m.small (omega (arith, d.auto.coarse, f.front_len)) lf d.ensures c.average.ensures.1,
    )
