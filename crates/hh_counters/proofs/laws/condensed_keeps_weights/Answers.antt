use Rattle.hh_counters.proofs.laws.condensed_keeps_weights.Goals as goal
use Rattle.hh_counters.proofs.Condensing.{total_of-condensed, weight_of-condensed, positive-condensed}
use Rattle.hh_counters.proofs.CondensedCounts.{keys-condensed, few-condensed}

pub returns-clause-weights : goal.returns-clause-weights
returns-clause-weights c = λ d xs. (total_of-condensed d xs, λ x some. weight_of-condensed d xs x some)

pub returns-clause-items : goal.returns-clause-items
returns-clause-items c = λ d xs. (positive-condensed d xs, keys-condensed d xs)

pub returns-clause-few : goal.returns-clause-few
returns-clause-few c = few-condensed
