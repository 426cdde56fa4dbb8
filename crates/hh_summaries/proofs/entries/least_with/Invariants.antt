use Rattle.std.proofs.Common.{◌≡◌, min, take, fold}
use Rattle.hh_stream.specs.Weights.{Entry}
use Rattle.hh_summaries.proofs.entries.least_with.Given as goal

abbrev pub invariant-loop-entry : goal.invariant-loop-entry
invariant-loop-entry l = l.least ≡ fold (λ n (e : Entry). min n e.1) l.number (take l.entry-index l.entries)
