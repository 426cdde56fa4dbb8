use Rattle.std.proofs.Common.{◌≡◌, [], take}
use Rattle.std.specs.List.{flat_map}
use Rattle.csv.specs.Records.{fields_of, partial_of}
use Rattle.hh_records.specs.Layouts.{name_of}
use Rattle.hh_records.proofs.layout.name_row.Given as goal

abbrev pub invariant-loop-column : goal.invariant-loop-column
invariant-loop-column l = (fields_of l.row ≡ flat_map name_of (take l.column-index l.fn.layout.key.items)) × (partial_of l.row ≡ [])
