-- One byte further.
use Rattle.grouping_text.proofs.printing.Bytes.{copy_next, puts_within}
use Rattle.grouping_text.proofs.printing.put_all.Goals as goal

pub loop-b-preserved : goal.loop-b-preserved
loop-b-preserved c = record {
  within = puts_within _ _ _ _ _ c.put-end.ensures;
  puts = copy_next _ _ _ _ _ _ c.loop-b.invariant.puts c.loop-b-test.true _ _ c.put-end.ensures;
}
