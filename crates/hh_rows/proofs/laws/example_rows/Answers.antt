use Rattle.std.proofs.Common.{refl}
use Rattle.std.specs.Str.{chars, is_utf8}
use Rattle.csv.specs.Machine.{next_record}
use Rattle.csv.specs.Reading.{records_from}
use Rattle.csv.specs.Writing.{escaped, fields_text, is_blank}
use Rattle.hh_rows.proofs.laws.example_rows.Goals as goal

pub returns : goal.returns
unfolding next_record records_from escaped fields_text is_blank chars is_utf8
returns c = (refl, refl, refl, refl)
