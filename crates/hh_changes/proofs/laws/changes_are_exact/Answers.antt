use Rattle.hh_changes.proofs.ChangeFacts.{changes_are_exact, sure_changes_are_listed}
use Rattle.hh_changes.proofs.laws.changes_are_exact.Goals as goal

pub returns-clause-exact : goal.returns-clause-exact
returns-clause-exact c = changes_are_exact

pub returns-clause-sure : goal.returns-clause-sure
returns-clause-sure c = sure_changes_are_listed
