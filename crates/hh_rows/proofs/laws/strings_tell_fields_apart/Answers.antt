use Rattle.hh_rows.proofs.StringFacts.{strings_tell_fields_apart}
use Rattle.hh_rows.proofs.laws.strings_tell_fields_apart.Goals as goal

pub returns : goal.returns
returns c = strings_tell_fields_apart
