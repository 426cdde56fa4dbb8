use Rattle.std.proofs.Common.{rules}
use Rattle.hh_rows.proofs.printed.millionths.Goals as goal

pub returns : goal.returns
returns c = search rules
