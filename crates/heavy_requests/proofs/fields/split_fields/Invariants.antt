-- The fields so far and those of the rest are those of the record.
use Rattle.std.proofs.Common.{◌≡◌, ◌++◌, map, drop}
use Rattle.heavy_requests.specs.Fields.{fields_from, fields_in}
use Rattle.heavy_requests.proofs.fields.split_fields.Given as goal

abbrev pub invariant-loop-byte : goal.invariant-loop-byte
invariant-loop-byte l =
    map (λ f. f.items) l.fields.items ++ fields_from l.delimiter l.place l.field.items (drop l.byte-index l.bytes)
    ≡ fields_in l.delimiter l.bytes
