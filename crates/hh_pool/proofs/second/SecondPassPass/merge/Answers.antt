use Rattle.hh_pool.proofs.Tried.{second_joined}
use Rattle.hh_pool.proofs.second.SecondPassPass.merge.Goals as goal

pub returns-clause-both : goal.returns-clause-both
returns-clause-both g c a b apart p q = second_joined _ _ a b p q
