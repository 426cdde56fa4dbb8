use Rattle.std.proofs.Common.{refl}
use Rattle.hh_counters.proofs.Monitoring.{monitor_push, translated_monitor}
use Rattle.hh_summaries.proofs.Summaries.{sketch_nothing, sketch_push}
use Rattle.hh_counters.proofs.laws.summaries_follow_items.Goals as goal

pub returns-clause-summaries : goal.returns-clause-summaries
returns-clause-summaries c = λ k xs e. (sketch_nothing k, sketch_push k xs e)

pub returns-clause-monitors : goal.returns-clause-monitors
returns-clause-monitors c = λ k xs e. (refl, monitor_push k xs e, translated_monitor k xs)
