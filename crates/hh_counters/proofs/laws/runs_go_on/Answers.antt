use Rattle.std.proofs.Common.{[]}
use Rattle.hh_counters.proofs.laws.runs_go_on.Goals as goal
use Rattle.hh_counters.proofs.Runs.{run_more, run_step}

pub returns-clause-by_any_step : goal.returns-clause-by_any_step
returns-clause-by_any_step c = λ xs e k s t. run_more xs e k [] s t

pub returns-clause-by_the_step : goal.returns-clause-by_the_step
returns-clause-by_the_step c = run_step
