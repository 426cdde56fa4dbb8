use Rattle.std.proofs.Common.{arith, rules}
use Rattle.std.proofs.lemmas.Grind.{common_steps}
use Rattle.hh_summaries.proofs.entries.push_copies.Goals as goal

pub returns-in_err-push_copy : goal.returns-in_err-push_copy
returns-in_err-push_copy c = search rules

pub loop-other-preserved : goal.loop-other-preserved
loop-other-preserved c = grind (arith, common_steps)
