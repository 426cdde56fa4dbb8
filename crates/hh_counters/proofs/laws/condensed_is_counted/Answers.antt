use Rattle.hh_counters.proofs.laws.condensed_is_counted.Goals as goal
use Rattle.hh_counters.proofs.CondensedCounts.{condensed_counts}

pub returns : goal.returns
returns c = condensed_counts
