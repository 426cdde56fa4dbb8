use Rattle.hh_counters.proofs.laws.candidates_suffice.Goals as goal
use Rattle.hh_summaries.proofs.Reports.{report_with_counters, report_from_candidates}

pub returns : goal.returns
returns c = λ d xs k p q. (report_with_counters d xs p q, report_from_candidates d xs k p q)
