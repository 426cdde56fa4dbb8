use Rattle.std.proofs.Common.{◌≡◌}
use Rattle.hh_tests.proofs.sums.tally.Given as goal

abbrev pub invariant-loop-number : goal.invariant-loop-number
invariant-loop-number l = l.seat.sums ≡ l.sums
