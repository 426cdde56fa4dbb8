use Rattle.std.proofs.Common.{◌≡◌, Some, take}
use Rattle.csv.specs.Records.{fields_of}
use Rattle.hh_records.specs.Layouts.{places_of}
use Rattle.hh_records.proofs.layout.places_of.Given as goal

abbrev pub invariant-loop-column : goal.invariant-loop-column
invariant-loop-column l =
    places_of (fields_of l.header) (take l.column-index l.columns) ≡ Some l.places.items
