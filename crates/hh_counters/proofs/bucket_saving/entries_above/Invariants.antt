use Rattle.std.proofs.Common.{◌≡◌, filter, take}
use Rattle.hh_summaries.specs.Counters.{exceeds}
use Rattle.hh_counters.proofs.bucket_saving.entries_above.Given as goal

abbrev pub invariant-loop-i : goal.invariant-loop-i
invariant-loop-i l = l.entries.items ≡ filter (exceeds l.least) (take l.i l.index.entries)
