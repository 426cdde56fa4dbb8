use Rattle.hh_counters.proofs.laws.misra_gries_is_honest.Goals as goal
use Rattle.hh_summaries.proofs.Summaries.{honest-misra_gries}

pub returns : goal.returns
returns c = honest-misra_gries
