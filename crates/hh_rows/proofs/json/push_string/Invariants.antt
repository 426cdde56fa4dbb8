use Rattle.std.proofs.Common.{◌≡◌, ◌++◌, ◌∷◌, take}
use Rattle.std.specs.List.{flat_map}
use Rattle.csv.specs.Writing.{quote_mark}
use Rattle.hh_rows.specs.Json.{string_byte}
use Rattle.hh_rows.proofs.json.push_string.Given as goal

abbrev pub invariant-loop-byte : goal.invariant-loop-byte
invariant-loop-byte l =
    l.text.items ≡ l.fn.text.items ++ quote_mark ∷ flat_map (string_byte l.is_text) (take l.byte-index l.field)
