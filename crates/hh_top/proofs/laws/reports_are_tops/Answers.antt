use Rattle.hh_top.proofs.Ranking.{report_is_first}
use Rattle.hh_top.proofs.laws.reports_are_tops.Goals as goal

pub returns : goal.returns
returns c = report_is_first
