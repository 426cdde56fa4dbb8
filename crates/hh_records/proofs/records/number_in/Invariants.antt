use Rattle.std.proofs.Common.{◌≡◌, ◌<◌, ◌^◌, min, take, true}
use Rattle.std.specs.List.{list_all}
use Rattle.hh_stream.specs.Digits.{is_digit, value_of}
use Rattle.hh_records.proofs.records.number_in.Given as goal

abbrev pub invariant-loop-digit : goal.invariant-loop-digit
invariant-loop-digit l = (l.value ≡ min (value_of (take l.digit-index l.field)) 18446744073709551615)
    × (list_all is_digit (take l.digit-index l.field) ≡ true)
    × (l.value < 10 ^ l.digit-index)
