use Rattle.hh_counters.proofs.laws.counts_add_up.Goals as goal
use Rattle.hh_counters.proofs.Counting.{counted_from_zero, counted-append}

pub returns : goal.returns
returns c = λ ks xs ys ns. (counted_from_zero ks xs, counted-append ks xs ys ns)
