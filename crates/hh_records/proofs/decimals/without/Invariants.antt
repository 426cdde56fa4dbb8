use Rattle.std.proofs.Common.{◌≡◌, ◌/◌, ◌^◌}
use Rattle.hh_records.proofs.decimals.without.Given as goal

abbrev pub invariant-loop-place : goal.invariant-loop-place
invariant-loop-place l = l.left ≡ l.number / 10 ^ l._place
