use Rattle.std.proofs.Common.{rules}
use Rattle.hh_commands.proofs.commands.merge.merge_bytes.Goals as goal

pub returns-clause-merged : goal.returns-clause-merged
returns-clause-merged c = search rules
