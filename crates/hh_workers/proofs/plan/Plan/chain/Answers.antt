use Rattle.hh_workers.proofs.LeafFacts.{length_leaves}
use Rattle.hh_workers.proofs.TreeFacts.{chain_merges}
use Rattle.hh_workers.proofs.plan.Plan.chain.Goals as goal

pub returns-clause-pieces : goal.returns-clause-pieces
returns-clause-pieces c = length_leaves _ _ (chain_merges _ _ c.requires.some c.in_ok-chain_tree.ensures.chain)
