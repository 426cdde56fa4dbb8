use Rattle.hh_workers.proofs.ParsingFacts.{spells-one}
use Rattle.hh_pool.proofs.laws.texts_spell_one_tree.Goals as goal

pub returns : goal.returns
returns c = spells-one
