use Rattle.hh_counters.proofs.CountFacts.{count-more}
use Rattle.hh_counters.proofs.laws.counts_follow_items.Goals as goal

pub returns : goal.returns
returns c = count-more c.counts_add_up.ensures
