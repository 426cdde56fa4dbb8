use Rattle.std.proofs.Common.{rules}
use Rattle.hh_rows.proofs.rows.write_report.Goals as goal

pub returns-clause-refused : goal.returns-clause-refused
returns-clause-refused c = search rules
