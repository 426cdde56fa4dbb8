use Rattle.hh_counters.proofs.laws.heavy_keys_have_counters.Goals as goal
use Rattle.hh_summaries.proofs.Reports.{heavy_has_counter}

pub returns : goal.returns
returns c = heavy_has_counter
