use Rattle.std.proofs.Common.{◌≡◌, ◌+◌, ◌-◌, length, refl, arith, ◌∙◌, take, drop, length-set, length-take-le, length-drop, suc}
use Rattle.definitions.specs.Coarse.{packed_entry}
use Rattle.laws.specs.Packed.{Column}
use Rattle.coarse_inverse.specs.Lanes.{lane_sums}
use Rattle.coarse_inverse.proofs.Sides.{back_none, back_more, kept_sums}
use Rattle.coarse_inverse.proofs.lanes.backward_lanes.Goals as goal
use Rattle.coarse_inverse.proofs.lanes.backward_lanes.Goals.{then-factor-i-eq0, else-factor-i-eq0}

pub loop-i-init : goal.loop-i-init
loop-i-init c =
    let a = c.args in
    let z : a.factor.now.n - a.factor.now.n ≡ 0 = omega arith in
    record { long = refl; solved = back_none 16 a.factor.now.l.now a.factor.now.n a.w.now c.requires _ z; column = λ e h. absurd (omega (arith, rw z at e)) }

pub loop-i-preserved : goal.loop-i-preserved
loop-i-preserved c =
    let a = c.args in
    let o = c.loop-i in
    let l = a.factor.now.l.now in
    let n = a.factor.now.n in
    let k = n - o.i in
    let i = o.i - 1 in
    let j = c.if-factor-i-eq0 in
    let z : n - i ≡ k + 1 = omega arith in
    let s : j.sums ≡ lane_sums 16 (λ k. packed_entry l (suc i + k) i) (suc i) o.w (n - suc i) = elim j.branch [
      | then-factor-i-eq0 w ↦
          let kept : Column l i n o.kept = o.invariant.column (omega (arith, w.if-factor-i-eq0.true)) (omega arith) in
          let u : length (take (n - (i + 1)) (drop (i + 1) o.kept)) ≡ n - (i + 1) = length-take-le (n - (i + 1)) (drop (i + 1) o.kept) (omega (arith, length-drop (i + 1) o.kept, w.if-factor-i-eq0.array_long)) in
          w.sums-is ∙ kept_sums 16 l o.kept o.w i n (n - (i + 1)) (length o.w - (i + 1)) _ w.lane_dots-sums.result kept refl (omega arith) u w.lane_dots-sums.ensures
      | else-factor-i-eq0 w ↦ w.sums-is ∙ w.column_lanes-sums.ensures.value
    ] in
    record {
      long = simp length-set o.invariant.long;
      solved = rw z (back_more 16 l n a.w.now c.requires o.w k i c.put_lanes.new.row j.sums _ (omega arith) (omega arith) (omega arith) o.invariant.solved s (c.row.ensures.entries (omega arith) i (omega arith)) c.put_lanes.ensures);
      column = elim j.branch [
        | then-factor-i-eq0 w ↦ λ e h. absurd (omega (arith, w.if-factor-i-eq0.true))
        | else-factor-i-eq0 w ↦ λ e h. rw w.kept-is (w.column_lanes-sums.ensures.kept_column h)
      ];
    }
