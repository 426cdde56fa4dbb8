use Rattle.hh_pieces.proofs.CutFacts.{feeds-cut}
use Rattle.hh_pieces.proofs.laws.feeds_outside_quotes_are_cuts.Goals as goal

pub returns : goal.returns
returns c = feeds-cut
