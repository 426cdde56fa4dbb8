use Rattle.std.proofs.Common.{rules}
use Rattle.hh_rows.proofs.printed.topmost.Goals as goal

pub returns-in-Some : goal.returns-in-Some
returns-in-Some c = search rules
