use Rattle.std.proofs.Common.{◌≡◌, take}
use Rattle.hh_stream.specs.Weights.{total_of}
use Rattle.hh_summaries.proofs.entries.sum_of.Given as goal

abbrev pub invariant-loop-entry : goal.invariant-loop-entry
invariant-loop-entry l = l.sum ≡ total_of (take l.entry-index l.entries)
