-- The first groups stand at the front, what was lent behind them.
use Rattle.std.proofs.Common.{◌≡◌, ◌/◌, ◌-◌, length, replicate, refl, ap, ◌∙◌, arith}
use Rattle.definitions.specs.Lists.{tab}
use Rattle.laws.proofs.Growing.{tab_none, tab_more, tab_all}
use Rattle.two_level_grouping.proofs.Numbered.{rounded_up, zeros_behind}
use Rattle.two_level_grouping.proofs.contiguous.Goals as goal

pub loop-node-init : goal.loop-node-init
loop-node-init c = tab_none (λ k. k / c.args.size) _

pub loop-node-preserved : goal.loop-node-preserved
loop-node-preserved c = let o = c.loop-node in tab_more (λ k. k / c.args.size) o.node o.groups _ _ (omega arith) o.invariant refl

pub returns : goal.returns
returns c =
    let a = c.args in
    let o = c.loop-node in
    let s = c.split_at_mut-groups in
    let e : o.node ≡ a.nodes = omega arith in
    let g : o.groups ≡ tab (λ k. k / a.size) a.nodes = tab_all (λ k. k / a.size) o.node o.groups s.result.0.now (omega arith) o.invariant ∙ ap (tab (λ k. k / a.size)) s.ensures.front_len in
    let r : length s.result.1.now ≡ length a.ids.now - a.nodes = omega arith in
    (c.div_ceil.ensures ∙ rounded_up a.nodes a.size c.requires.0, zeros_behind (λ k. k / a.size) 0 (length a.ids.now) a.nodes o.groups c.fill.new.self g (c.fill.ensures.after (λ y e. e) ∙ ap (λ n. replicate n 0) r))
