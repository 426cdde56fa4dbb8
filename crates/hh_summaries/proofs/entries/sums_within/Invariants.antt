use Rattle.std.proofs.Common.{◌≡◌, ◌+◌, take}
use Rattle.hh_stream.specs.Weights.{total_of}
use Rattle.hh_summaries.proofs.entries.sums_within.Given as goal

abbrev pub invariant-loop-entry : goal.invariant-loop-entry
invariant-loop-entry l = total_of (take l.entry-index l.entries) + l.left ≡ l.total
