use Rattle.std.proofs.Common.{arith}
use Rattle.std.proofs.lemmas.Grind.{common_steps}
use Rattle.heavy_host.proofs.files.push_file.Goals as goal
use Rattle.heavy_host.proofs.files.push_file.Goals.{in-Ok, in-Err}

pub returns-clause-pushed : goal.returns-clause-pushed
returns-clause-pushed c = elim c.match-push.branch [
  | in-Ok w ↦ rw w.result-is (c.in_ok-file.field-0, c.in_ok-file.was, grind (arith, common_steps))
  | in-Err w ↦ rw w.result-is tt
]
