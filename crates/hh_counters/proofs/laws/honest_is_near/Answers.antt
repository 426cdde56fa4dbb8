use Rattle.hh_counters.proofs.laws.honest_is_near.Goals as goal
use Rattle.hh_summaries.proofs.Summaries.{honest_within, honest_near, honest_same, honest_by_weights}

pub returns-clause-near : goal.returns-clause-near
returns-clause-near c = λ d m xs k h. (honest_within d m xs k h, honest_near d m xs k h)

pub returns-clause-order : goal.returns-clause-order
returns-clause-order c = honest_same

pub returns-clause-weights : goal.returns-clause-weights
returns-clause-weights c = honest_by_weights
