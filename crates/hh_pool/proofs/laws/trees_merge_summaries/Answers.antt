use Rattle.hh_pool.proofs.laws.trees_merge_summaries.Goals as goal
use Rattle.hh_pool.proofs.Merged.{summaries-merge}

pub returns : goal.returns
returns c = summaries-merge c.join_of_honest_is_honest.ensures c.misra_gries_is_honest.ensures
