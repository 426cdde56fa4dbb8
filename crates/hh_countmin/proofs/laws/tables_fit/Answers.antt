use Rattle.hh_countmin.proofs.Tables.{table_of-fits}
use Rattle.hh_countmin.proofs.laws.tables_fit.Goals as goal

pub returns : goal.returns
returns c = table_of-fits
