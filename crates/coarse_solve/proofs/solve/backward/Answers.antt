use Rattle.std.proofs.Common.{◌≡◌, ◌+◌, ◌-◌, length, get_or, refl, arith, ap, ◌∙◌, drop, length-take-le, length-drop, suc}
use lib.Ieee.{nan}
use Rattle.definitions.specs.Numbers.{◌-ᶠ◌, ◌/ᶠ◌}
use Rattle.laws.specs.Packed.{Column}
use Rattle.laws.proofs.Packed.{backward_none, backward_step}
use Rattle.coarse_solve.specs.RowSums.{col_sum}
use Rattle.coarse_solve.proofs.Solving.{kept_sum}
use Rattle.coarse_solve.proofs.solve.backward.Goals as goal
use Rattle.coarse_solve.proofs.solve.backward.Goals.{then-factor-i-eq0, else-factor-i-eq0}

pub loop-i-init : goal.loop-i-init
loop-i-init c = let z : length c.args.y.now - c.args.factor.now.n ≡ 0 = omega arith in record {
  room = refl;
  solved = rw z (backward_none c.args.factor.now.l.now c.args.y.now (length c.args.y.now));
  column = λ e h. absurd (omega (arith, rw z at e));
}

pub loop-i-preserved : goal.loop-i-preserved
loop-i-preserved c =
    let a = c.args in
    let o = c.loop-i in
    let l = a.factor.now.l.now in
    let n = length a.y.now in
    let k = n - o.i in
    let i = o.i - 1 in
    let z : n - i ≡ k + 1 = omega arith in
    let en : a.factor.now.n ≡ n = omega arith in
    let m : length o.y ≡ n = omega arith in
    let s : c.if-factor-i-eq0.sum ≡ col_sum l o.y i (length o.y - suc i) = elim c.if-factor-i-eq0.branch [
      | then-factor-i-eq0 w ↦
          let kept : Column l i (length o.y) o.kept = rw m (o.invariant.column (omega (arith, w.if-factor-i-eq0.true)) (omega arith)) in
          w.sum-is ∙ kept_sum l o.y o.kept i (length o.y) _ _ _ w.dot-sum.result kept refl (omega (arith, w.if-factor-i-eq0.true)) (omega arith)
          (length-take-le (length o.y - (i + 1)) (drop (i + 1) o.y) (omega (arith, length-drop (i + 1) o.y))) w.dot-sum.ensures
      | else-factor-i-eq0 w ↦ w.sum-is ∙ rw (en, ← m) at w.column_dot-sum.ensures.value
    ] in
    record {
      room = elim c.if-factor-i-eq0.branch [
        | then-factor-i-eq0 w ↦ rw w.kept-is o.invariant.room
        | else-factor-i-eq0 w ↦ rw w.kept-is (w.column_dot-sum.auto.kept ∙ o.invariant.room)
      ];
      solved = rw z (backward_step l a.y.now o.y k i (omega arith) (omega arith) o.invariant.solved c.if-factor-i-eq0.sum _ (omega arith) s
          (ap (λ d. (get_or o.y i nan -ᶠ c.if-factor-i-eq0.sum) /ᶠ d) (c.row.ensures.entries (omega arith) i (omega arith))));
      column = elim c.if-factor-i-eq0.branch [
        | then-factor-i-eq0 w ↦ λ e h. absurd (omega (arith, w.if-factor-i-eq0.true))
        | else-factor-i-eq0 w ↦ λ e h. rw (w.kept-is, ← en) (w.column_dot-sum.ensures.kept_column h)
      ];
    }
