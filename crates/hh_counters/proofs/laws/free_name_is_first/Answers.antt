use Rattle.hh_counters.proofs.laws.free_name_is_first.Goals as goal
use Rattle.hh_counters.proofs.Condensing.{free_is_first, one_first_free}

pub returns : goal.returns
returns c = λ d. (free_is_first d, one_first_free d)
