use Rattle.std.proofs.Common.{◌≤◌, ◌-◌, length}
use Rattle.hh_pieces.proofs.cuts.begins_with_quotes.Given as goal

abbrev pub invariant-loop-from : goal.invariant-loop-from
invariant-loop-from l = l.from ≤ length l.fn.text

abbrev pub decreases-loop-from : goal.decreases-loop-from
decreases-loop-from l = length l.fn.text - l.from
