use Rattle.std.proofs.Common.{rules}
use Rattle.hh_library.proofs.commands.plain.confirm_bytes.Goals as goal

pub returns-clause-rows : goal.returns-clause-rows
returns-clause-rows c = search rules
