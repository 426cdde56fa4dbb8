use Rattle.hh_seals.proofs.Sealed.{one_text, one_value}
use Rattle.hh_seals.proofs.laws.sealed_texts_are_unique.Goals as goal

pub returns-clause-value : goal.returns-clause-value
returns-clause-value c = one_value

pub returns-clause-text : goal.returns-clause-text
returns-clause-text c = one_text
