use Rattle.std.proofs.Common.{[], sym, ap, ◌∙◌}
use Rattle.hh_summaries.specs.Counters.{least_counter}
use Rattle.hh_summaries.proofs.entries.least_counter.Goals as goal

pub returns-in-Some : goal.returns-in-Some
returns-in-Some c = c.least_with.ensures [] ∙ sym (ap least_counter c.in-Some.ensures.cases.0)
