use Rattle.std.proofs.Common.{rules}
use Rattle.hh_commands.proofs.commands.condense.condensed_rows.Goals as goal

pub returns : goal.returns
returns c = search rules
