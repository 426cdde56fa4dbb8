use Rattle.hh_workers.specs.Plans.{shape}
use Rattle.hh_workers.proofs.LeafFacts.{merges}
use Rattle.hh_pool.proofs.merging.+merge_tree.Given as goal

abbrev pub decreases-merge_tree : goal.decreases-merge_tree
decreases-merge_tree l = merges (shape l.tree.now)
