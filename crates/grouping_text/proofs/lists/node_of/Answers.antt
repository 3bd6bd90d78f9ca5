-- What the node lists, by the first number and what stands behind it.
use mathlib.Core.Path.{◌≡◌, ap, sym, ◌∙◌}
use mathlib.Core.List.{◌∷◌, ◌++◌}
use Prim.Native.Nat.{◌+◌, ◌-◌}
use native.Mathlib.Omega.{arith}
use borrow.Author.Rules.{rules}
use borrow.Rule.Slice.PartMut.{put_mid}
use lib.ListN.{length, take}
use Rattle.std.proofs.lemmas.Slice.{take-put_mid}
use Rattle.grouping_text.specs.Numbers.{node_from}
use Rattle.grouping_text.proofs.lists.Nodes.{got_none, got_large, got_short, got_lists}
use Rattle.grouping_text.proofs.lists.node_of.Goals as goal

pub returns-in_default-clause-lists : goal.returns-in_default-clause-lists
returns-in_default-clause-lists c = λ o. sym (got_none o _ _ c.in_default.ensures.cases)

pub returns-then-have-count-clause-lists : goal.returns-then-have-count-clause-lists
returns-then-have-count-clause-lists c =
    let e : c.args.numbers.now ≡ c.in-Some.field-0-0.now ∷ c.in-Some.rest.now = c.in-Some.ensures.cases.0 in
    λ o. sym (ap (node_from o _) e ∙ got_large _ _ c.requires.0 c.requires.1 _ _ o (omega arith))

pub returns-in_default-split_at_checked-clause-lists : goal.returns-in_default-split_at_checked-clause-lists
returns-in_default-split_at_checked-clause-lists c =
    let e : c.args.numbers.now ≡ c.in-Some.field-0-0.now ∷ c.in-Some.rest.now = c.in-Some.ensures.cases.0 in
    λ o. sym (ap (node_from o _) e ∙ got_short _ _ c.requires.0 c.requires.1 _ _ o (omega arith) c.in_default-split_at_checked.ensures.cases)

pub returns-clause-lists : goal.returns-clause-lists
returns-clause-lists c =
    let have = c.args.have in
    let nb = c.args.neighbours.now in
    let rest = c.in-Some.rest.now in
    let x = c.in-Some.field-0-0.now in
    let e : c.args.numbers.now ≡ x ∷ rest = c.in-Some.ensures.cases.0 in
    let s = c.in-Some-split_at_checked.ensures.cases in
    let copied : c.copy_from_slice.new.self ≡ take x rest = c.copy_from_slice.ensures.after ∙ s.1 in
    let long : length c.copy_from_slice.new.self ≡ x = search rules in
    let front : take (have + x) (put_mid have (have + x - have) nb c.copy_from_slice.new.self) ≡ take have nb ++ take x rest =
    take-put_mid have (have + x - have) nb c.copy_from_slice.new.self (have + x) (omega (arith, long)) (omega arith) ∙ ap (λ l. take have nb ++ l) copied in
    λ o. rw (front, s.2) (sym (ap (node_from o _) e ∙ got_lists _ _ c.requires.0 c.requires.1 _ _ o (omega arith) s.0))
