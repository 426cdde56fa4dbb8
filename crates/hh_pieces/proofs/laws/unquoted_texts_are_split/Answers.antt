use Rattle.hh_pieces.proofs.LineFacts.{unquoted-split}
use Rattle.hh_pieces.proofs.laws.unquoted_texts_are_split.Goals as goal

pub returns : goal.returns
returns c = unquoted-split
