use Rattle.hh_counters.proofs.laws.join_of_honest_is_honest.Goals as goal
use Rattle.hh_summaries.proofs.Summaries.{join_is_honest}

pub returns : goal.returns
returns c = join_is_honest
