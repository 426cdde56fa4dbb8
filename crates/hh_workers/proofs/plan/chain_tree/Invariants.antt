use Rattle.std.proofs.Common.{◌≡◌, ◌-◌}
use Rattle.hh_workers.specs.Plans.{shape}
use Rattle.hh_workers.specs.Trees.{chain_of}
use Rattle.hh_workers.proofs.plan.chain_tree.Given as goal

abbrev pub invariant-loop-i : goal.invariant-loop-i
invariant-loop-i l = shape l.tree ≡ chain_of (l.i - 1)
