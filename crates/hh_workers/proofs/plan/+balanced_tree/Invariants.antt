use Rattle.hh_workers.proofs.plan.+balanced_tree.Given as goal

abbrev pub decreases-balanced_tree : goal.decreases-balanced_tree
decreases-balanced_tree l = l.pieces
