-- With s the whole root of a, `parts` says what the division finds; the test of q² says whether the candidate is one too many.
use Rattle.root.proofs.Division.{parts, rest_pos, rest_at, rest_before}
use Rattle.root.proofs.digits.with_rest.Goals as goal

pub overflow_sub-result-then-left-square-2 : goal.overflow_sub-result-then-left-square-2
overflow_sub-result-then-left-square-2 c = let P = parts _ _ c.requires.0 c.requires.1 c.whole_root-s.ensures in rest_pos P

pub returns-then-left-square : goal.returns-then-left-square
returns-then-left-square c = let P = parts _ _ c.requires.0 c.requires.1 c.whole_root-s.ensures in rest_before P c.if-left-square.true

pub returns : goal.returns
returns c = let P = parts _ _ c.requires.0 c.requires.1 c.whole_root-s.ensures in rest_at P c.if-left-square.false
