use Rattle.std.proofs.Common.{◌≡◌, drop}
use Rattle.csv.specs.Records.{fields_of}
use Rattle.hh_records.specs.Layouts.{named_from}
use Rattle.hh_records.proofs.layout.named.Given as goal

abbrev pub invariant-loop-place : goal.invariant-loop-place
invariant-loop-place l =
    named_from l.name 0 (fields_of l.header) ≡ named_from l.name l.place (drop l.place (fields_of l.header))
