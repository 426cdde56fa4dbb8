use Rattle.hh_pieces.proofs.CutFacts.{pieces-records}
use Rattle.hh_pieces.proofs.laws.pieces_have_the_records.Goals as goal

pub returns : goal.returns
returns c = pieces-records
