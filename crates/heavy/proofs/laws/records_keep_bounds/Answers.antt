use Rattle.heavy.proofs.BoundFacts.{held_trees_keep_bounds, honest_keeps_bounds, parts_keep_bounds}
use Rattle.heavy.proofs.laws.records_keep_bounds.Goals as goal

pub returns-clause-records : goal.returns-clause-records
returns-clause-records c = honest_keeps_bounds c.counters_bound_weights.ensures

pub returns-clause-parts : goal.returns-clause-parts
returns-clause-parts c = parts_keep_bounds c.counters_bound_weights.ensures

pub returns-clause-files : goal.returns-clause-files
returns-clause-files c =
    held_trees_keep_bounds c.trees_merge_summaries.ensures c.condensed_keeps_weights.ensures.weights
    c.counters_bound_weights.ensures
