use Rattle.std.proofs.Common.{◌≡◌, drop}
use Rattle.hh_records.specs.Decimals.{point_from}
use Rattle.hh_records.proofs.decimals.point_in.Given as goal

abbrev pub invariant-loop-place : goal.invariant-loop-place
invariant-loop-place l = point_from 0 l.field ≡ point_from l.place (drop l.place l.field)
