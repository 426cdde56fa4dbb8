use Rattle.hh_counters.specs.Buckets.{BoundCounters}
use Rattle.hh_counters.proofs.Gathering.{lag}
use Rattle.hh_counters.proofs.bucket_saving.refresh_first.Given as goal

abbrev pub invariant-loop-from : goal.invariant-loop-from
invariant-loop-from l = BoundCounters l.index.entries l.buckets

abbrev pub decreases-loop-from : goal.decreases-loop-from
decreases-loop-from l = lag l.index.entries l.buckets
