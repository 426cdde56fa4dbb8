use Rattle.std.proofs.Common.{◌≡◌, ◌++◌, [], drop}
use Rattle.std.specs.List.{flat_map}
use Rattle.std.specs.Prelude.{option_map}
use Rattle.csv.specs.Records.{fields_of, partial_of}
use Rattle.json.specs.Find.{BeginsWith}
use Rattle.json.specs.Json.{Json}
use Rattle.hh_json.specs.Fields.{keys_of}
use Rattle.hh_json.proofs.fields.push_keys.Given as goal

abbrev pub invariant-loop-name : goal.invariant-loop-name
invariant-loop-name g l =
    (partial_of l.fields ≡ [])
    × ((j : Json) → BeginsWith l.object j → option_map (λ texts. fields_of l.fn.fields ++ texts) (keys_of j (flat_map g.N.MemberName.said l.names))
    ≡ option_map (λ texts. fields_of l.fields ++ texts) (keys_of j (flat_map g.N.MemberName.said (drop l.name-index l.names))))
