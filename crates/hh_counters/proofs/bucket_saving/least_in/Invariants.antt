use Rattle.hh_counters.proofs.Gathering.{IsLeastOf}
use Rattle.hh_counters.proofs.bucket_saving.least_in.Given as goal

abbrev pub invariant-loop-i : goal.invariant-loop-i
invariant-loop-i l = IsLeastOf l.index.entries l.i l.least
