use Rattle.hh_records.proofs.DecimalFacts.{printed_numbers_are_read}
use Rattle.hh_records.proofs.laws.printed_numbers_are_read.Goals as goal

pub returns : goal.returns
returns c = printed_numbers_are_read
