use Rattle.hh_saved.proofs.Values.{one_spelling}
use Rattle.hh_saved.proofs.laws.spellings_are_unique.Goals as goal

pub returns : goal.returns
returns c = one_spelling
