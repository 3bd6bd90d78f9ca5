-- The entries of a node stand together.
use Rattle.laws.proofs.Lists.{take_drop}
use Rattle.adjacency.proofs.Rows.{span_rises}
use Rattle.adjacency.proofs.blocks.Blocks.entries.Goals as goal

pub slice_bounds-result-count : goal.slice_bounds-result-count
slice_bounds-result-count c = span_rises c.args.self.now.fit c.requires

pub slice_bounds-result-start : goal.slice_bounds-result-start
slice_bounds-result-start c = span_rises c.args.self.now.fit c.requires

pub slice_bounds-result-count-2 : goal.slice_bounds-result-count-2
slice_bounds-result-count-2 c = span_rises c.args.self.now.fit c.requires

pub slice_bounds-result-start-2 : goal.slice_bounds-result-start-2
slice_bounds-result-start-2 c = span_rises c.args.self.now.fit c.requires

pub returns-clause-columns : goal.returns-clause-columns
returns-clause-columns c = take_drop _ _ c.args.self.now.col_idx.now

pub returns-clause-values : goal.returns-clause-values
returns-clause-values c = take_drop _ _ c.args.self.now.values.now
