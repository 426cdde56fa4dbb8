use Rattle.hh_seals.proofs.Sealed.{one_digest, others_collide}
use Rattle.hh_seals.proofs.laws.changes_are_found.Goals as goal

pub returns-clause-content : goal.returns-clause-content
returns-clause-content c = others_collide

pub returns-clause-digest : goal.returns-clause-digest
returns-clause-digest c = one_digest
