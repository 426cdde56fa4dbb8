use Rattle.hh_counters.proofs.laws.condensed_parts_suffice.Goals as goal
use Rattle.hh_counters.proofs.Condensing.{found_by_weights, condensed_parts, condensed_report}

pub returns-clause-weights : goal.returns-clause-weights
returns-clause-weights c = found_by_weights

pub returns-clause-parts : goal.returns-clause-parts
returns-clause-parts c = condensed_parts

pub returns-clause-report : goal.returns-clause-report
returns-clause-report c = condensed_report
