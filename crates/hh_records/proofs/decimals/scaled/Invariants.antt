use Rattle.std.proofs.Common.{◌≡◌, ◌*◌, ◌^◌, min}
use Rattle.hh_records.proofs.decimals.scaled.Given as goal

abbrev pub invariant-loop-place : goal.invariant-loop-place
invariant-loop-place l = l.units ≡ min (l.number * 10 ^ l._place) 18446744073709551615
