use Rattle.hh_counters.proofs.laws.level_is_least.Goals as goal
use Rattle.hh_summaries.proofs.Level.{is_level, one_level}

pub returns : goal.returns
returns c = λ d k t. (is_level d k, λ h. one_level d k t _ h (is_level d k))
