-- What was built is left; a refusal by 1 to 8 leaves the lists as they were, one from the blocks on leaves zeros.
use Rattle.two_level_setup.specs.Memory.{lists}
use Rattle.two_level_setup.proofs.Checks.{judged_left, judged_cleared}
use Rattle.two_level_setup.proofs.Lengths.{same_lengths}
use Rattle.definitions.specs.Setup.{lengths_of}
use Rattle.csr32.specs.Seen.{lent}
use mathlib.Core.Path.{◌≡◌, sym, ◌∙◌}
use Rattle.two_level_setup.proofs.build_or_clear.Goals as goal
use Rattle.two_level_setup.proofs.build_or_clear.Goals.{in_default-via-in-Ok-1, in_default-via-in-Err+else-not-keeps_all}

pub returns-then-not-keeps_all-clause-built : goal.returns-then-not-keeps_all-clause-built
unfolding lengths_of
returns-then-not-keeps_all-clause-built c =
    let a = c.args in
    let k = c.build-built in
    judged_cleared (lent a.a.now) a.options (lists a.memory.now) (lists k.new.memory) k.result k.ensures.built _ (lists c.clear.new.self) c.in-Err.is (sym c.keeps_all.ensures ∙ c.if-not-keeps_all.true) c.clear.ensures.zeros
    (same_lengths _ _ k.ensures.kept)

pub returns-in_default-clause-built : goal.returns-in_default-clause-built
unfolding lengths_of
returns-in_default-clause-built c =
    let a = c.args in
    let k = c.build-built in
    let same : c.in_default.built ≡ k.result = elim c.in_default.branch [
      | in_default-via-in-Ok-1 w ↦ w.built-is
      | in_default-via-in-Err+else-not-keeps_all w ↦ w.built-is ∙ sym w.in-Err.is
    ] in
    rw same (judged_left (lent a.a.now) a.options (lists a.memory.now) (lists k.new.memory) k.result k.ensures.built (same_lengths _ _ k.ensures.kept) (λ q e. elim c.in_default.branch [
      | in_default-via-in-Ok-1 w ↦ cc
      | in_default-via-in-Err+else-not-keeps_all w ↦ cc
    ]))
