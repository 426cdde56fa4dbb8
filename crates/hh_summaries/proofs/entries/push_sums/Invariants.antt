use Rattle.std.proofs.Common.{◌+◌, ◌-◌, length}
use Rattle.hh_summaries.proofs.Summing.{IsSummed}
use Rattle.hh_summaries.proofs.entries.push_sums.Given as goal

abbrev pub invariant-loop-l : goal.invariant-loop-l
invariant-loop-l l = IsSummed l.left l.right l.l l.r l.all.items

abbrev pub decreases-loop-l : goal.decreases-loop-l
decreases-loop-l l = (length l.left - l.l) + (length l.right - l.r)
