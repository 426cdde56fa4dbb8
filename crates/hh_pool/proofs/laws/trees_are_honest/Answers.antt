use Rattle.hh_pool.proofs.laws.trees_are_honest.Goals as goal
use Rattle.hh_pool.proofs.TreeLaws.{honest-tree}

pub returns : goal.returns
returns c = honest-tree c.join_of_honest_is_honest.ensures
