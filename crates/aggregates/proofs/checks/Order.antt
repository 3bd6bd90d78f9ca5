-- What the tests of the neighbour lists say of them, and the room that is asked after them.
use mathlib.Core.Path.{◌≡◌, sym, ◌∙◌}
use mathlib.Core.Bool.{true, false, not, ◌&&◌}
use mathlib.Core.List.{List}
use Prim.Native.Nat.{ℕ, ◌+◌, ◌*◌, ◌<◌}
use native.Mathlib.Omega.{arith}
use lib.Dec.{eqb, leb}
use lib.ListN.{length, get_or}
use Rattle.std.proofs.lemmas.Bool.Decides.{nat_tests}
use Rattle.std.proofs.lemmas.Grind.{get_or_default_zero}
use Rattle.definitions.specs.Lists.{any, falls}
use Rattle.definitions.specs.Refusal.{done, require, ◌>>=◌}
use Rattle.definitions.specs.Groups.{grouping_call, graph_grouping, listed, no_anchor}
use Rattle.definitions.specs.declared.Refusal.TheVariants.{ListTooShort}
use Rattle.aggregates.specs.Within.{lists_call}
use Rattle.laws.proofs.Scans.{all_below_lem, no_falls}
use Rattle.aggregates.specs.Lists.{Lists}

pub fitting_lists : (nodes : ℕ) (offsets neighbours : List ℕ) → (eqb (length offsets) (nodes + 1) && eqb (get_or offsets 0 1) 0 && not (falls offsets) && eqb (get_or offsets nodes 0) (length neighbours)) ≡ true → any (λ w. leb nodes w) neighbours ≡ false → Lists nodes offsets neighbours
fitting_lists nodes offsets neighbours proper inside =
    let f : falls offsets ≡ false = grind (arith, nat_tests) in
    let long : 0 < length offsets = grind (arith, nat_tests) in
    let zero : get_or offsets 0 1 ≡ 0 = grind (arith, nat_tests) in
    record {
      long = grind (arith, nat_tests);
      start = sym (get_or_default_zero offsets 0 1 long) ∙ zero;
      rises = λ v k. no_falls offsets f v (grind (arith, nat_tests));
      ends = grind (arith, nat_tests);
      within = all_below_lem nodes neighbours inside;
    }

-- the checks of grouping alone are those of the lists, and then that of the room
module _ (nodes size : ℕ) (offsets neighbours : List ℕ) (room work : ℕ) where
  pub call_is : grouping_call nodes size offsets neighbours room work ≡ (lists_call nodes size offsets neighbours >>= (λ _. require (leb nodes room && leb (8 * nodes + 4 * length neighbours + 16) work) ListTooShort >>= (λ _. done (graph_grouping (listed offsets neighbours) no_anchor nodes size))))
  unfolding grouping_call lists_call require ◌>>=◌
  call_is = grind (arith, nat_tests)
