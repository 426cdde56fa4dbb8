use Rattle.hh_counters.proofs.laws.translation_is_misra_gries.Goals as goal
use Rattle.hh_counters.proofs.Runs.{run_is_misra_gries, steps_are_a_run}

pub returns-clause-translation : goal.returns-clause-translation
returns-clause-translation c = run_is_misra_gries

pub returns-clause-steps : goal.returns-clause-steps
returns-clause-steps c = steps_are_a_run
