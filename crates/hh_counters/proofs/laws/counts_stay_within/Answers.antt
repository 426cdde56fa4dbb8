use Rattle.hh_counters.proofs.Counting.{counts_stay_within}
use Rattle.hh_counters.proofs.laws.counts_stay_within.Goals as goal

pub returns : goal.returns
returns c = counts_stay_within
