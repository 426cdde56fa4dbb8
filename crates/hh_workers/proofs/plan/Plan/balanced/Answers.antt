use Rattle.hh_workers.proofs.LeafFacts.{length_leaves}
use Rattle.hh_workers.proofs.TreeFacts.{balanced_merges}
use Rattle.hh_workers.proofs.plan.Plan.balanced.Goals as goal

pub returns-clause-pieces : goal.returns-clause-pieces
returns-clause-pieces c = length_leaves _ _ (balanced_merges _ _ c.in_ok-balanced_tree.ensures.balanced)
