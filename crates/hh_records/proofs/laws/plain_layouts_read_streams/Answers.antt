use Rattle.hh_records.proofs.ReadFacts.{plain-layouts}
use Rattle.hh_records.proofs.laws.plain_layouts_read_streams.Goals as goal

pub returns : goal.returns
returns c = plain-layouts
