use Rattle.std.proofs.Common.{rules}
use Rattle.hh_commands.proofs.commands.merge.merge_counters.Goals as goal

pub returns-in-Err-DifferentK-clause-every_fault : goal.returns-in-Err-DifferentK-clause-every_fault
returns-in-Err-DifferentK-clause-every_fault c = search rules
