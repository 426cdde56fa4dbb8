use Rattle.std.proofs.Common.{◌+◌, ◌-◌, length}
use Rattle.hh_changes.proofs.MergeFacts.{IsMerged}
use Rattle.hh_changes.proofs.changed.push_changes.Given as goal

abbrev pub invariant-loop-l : goal.invariant-loop-l
invariant-loop-l l = IsMerged l.all l.sides l.l l.r l.changes.items

abbrev pub decreases-loop-l : goal.decreases-loop-l
decreases-loop-l l = (length l.sides.old.counters - l.l) + (length l.sides.new.counters - l.r)
