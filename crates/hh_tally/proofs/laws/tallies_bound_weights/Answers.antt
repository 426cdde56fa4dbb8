use Rattle.hh_tally.proofs.Bounds.{bounds_nothing, bounds_follow, bounds_merged, bounds_same, exact_weights}
use Rattle.hh_tally.proofs.laws.tallies_bound_weights.Goals as goal

pub returns-clause-follow : goal.returns-clause-follow
returns-clause-follow c = (bounds_nothing, bounds_follow)

pub returns-clause-merge : goal.returns-clause-merge
returns-clause-merge c = bounds_merged

pub returns-clause-order : goal.returns-clause-order
returns-clause-order c = bounds_same

pub returns-clause-exact : goal.returns-clause-exact
returns-clause-exact c = exact_weights
