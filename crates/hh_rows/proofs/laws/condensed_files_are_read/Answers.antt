use Rattle.hh_rows.proofs.TextFacts.{files_are_read}
use Rattle.hh_rows.proofs.laws.condensed_files_are_read.Goals as goal

pub returns : goal.returns
returns c = files_are_read c.condensed_keeps_weights.ensures.weights c.condensed_keeps_weights.ensures.items
