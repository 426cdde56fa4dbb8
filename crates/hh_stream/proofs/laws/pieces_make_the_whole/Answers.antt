use Rattle.hh_stream.proofs.CuttingFacts.{pieces-lengths, pieces-whole}
use Rattle.hh_stream.proofs.laws.pieces_make_the_whole.Goals as goal

pub returns-clause-lengths : goal.returns-clause-lengths
returns-clause-lengths c = pieces-lengths

pub returns-clause-whole : goal.returns-clause-whole
returns-clause-whole c = pieces-whole
