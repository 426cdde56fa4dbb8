use Rattle.std.proofs.Common.{rules}
use Rattle.hh_commands.proofs.commands.confirm.confirmed_text.Goals as goal

pub returns-clause-rows : goal.returns-clause-rows
returns-clause-rows c = search rules
