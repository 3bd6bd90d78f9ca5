-- One line further.
use Rattle.grouping_text.proofs.printing.Bytes.{list_first, list_next, puts_within}
use Rattle.grouping_text.proofs.printing.put_ids.Goals as goal

pub loop-v-init : goal.loop-v-init
loop-v-init c = record { within = c.requires; puts = list_first _ _ c.requires }

pub loop-v-preserved : goal.loop-v-preserved
loop-v-preserved c = record {
  within = puts_within _ _ _ _ _ c.put_line-end.ensures;
  puts = list_next _ _ _ _ _ _ c.loop-v.invariant.puts c.loop-v-test.true _ _ (rw c.from.ensures at c.put_line-end.ensures);
}
