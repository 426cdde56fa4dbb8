use Rattle.hh_records.proofs.KeyFacts.{keys_tell_fields}
use Rattle.hh_records.proofs.laws.keys_tell_fields.Goals as goal

pub returns : goal.returns
returns c = keys_tell_fields
