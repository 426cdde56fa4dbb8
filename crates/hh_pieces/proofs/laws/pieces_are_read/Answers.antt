use Rattle.hh_pieces.proofs.PieceFacts.{pieces-are-read}
use Rattle.hh_pieces.proofs.laws.pieces_are_read.Goals as goal

pub returns : goal.returns
returns c = pieces-are-read
