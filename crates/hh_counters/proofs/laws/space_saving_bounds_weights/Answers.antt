use Rattle.hh_counters.proofs.laws.space_saving_bounds_weights.Goals as goal
use Rattle.hh_counters.proofs.Runs.{run_total, run_bounds}

pub returns-clause-total : goal.returns-clause-total
returns-clause-total c = run_total

pub returns-clause-bounds : goal.returns-clause-bounds
returns-clause-bounds c = run_bounds
