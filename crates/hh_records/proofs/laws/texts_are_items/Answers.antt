use Rattle.hh_records.proofs.ByteFacts.{texts_are_items}
use Rattle.hh_records.proofs.laws.texts_are_items.Goals as goal

pub returns : goal.returns
returns c = texts_are_items
