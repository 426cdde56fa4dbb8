use Rattle.hh_top.proofs.Ranking.{top_is_exact}
use Rattle.hh_top.proofs.Unique.{only_top}
use Rattle.hh_top.proofs.laws.top_is_exact.Goals as goal

pub returns-clause-exact : goal.returns-clause-exact
returns-clause-exact c = top_is_exact

pub returns-clause-only : goal.returns-clause-only
returns-clause-only c = only_top
