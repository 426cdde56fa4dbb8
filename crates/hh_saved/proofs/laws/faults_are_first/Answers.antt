use Rattle.hh_saved.proofs.Firsts.{faults_first}
use Rattle.hh_saved.proofs.laws.faults_are_first.Goals as goal

pub returns : goal.returns
returns c = faults_first
