use Rattle.hh_counters.proofs.laws.report_is_exact.Goals as goal
use Rattle.hh_summaries.proofs.Reports.{heavy_is_report, one_report, rows_are_exact}

pub returns-clause-exact : goal.returns-clause-exact
returns-clause-exact c = heavy_is_report

pub returns-clause-unique : goal.returns-clause-unique
returns-clause-unique c = one_report

pub returns-clause-rows : goal.returns-clause-rows
returns-clause-rows c = rows_are_exact
