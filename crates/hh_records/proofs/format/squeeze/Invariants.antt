use Rattle.std.proofs.Common.{◌≡◌, [], take}
use Rattle.std.specs.Prelude.{not}
use Rattle.std.specs.List.{filter}
use Rattle.csv.specs.Records.{fields_of, partial_of}
use Rattle.hh_records.specs.Formats.{is_empty}
use Rattle.hh_records.proofs.format.squeeze.Given as goal

abbrev pub invariant-loop-place : goal.invariant-loop-place
invariant-loop-place l =
    (fields_of l.fields ≡ filter (λ f. not (is_empty f)) (take l.place (fields_of l.row))) × (partial_of l.fields ≡ [])
