use Rattle.hh_pool.proofs.Tried.{first_joined}
use Rattle.hh_pool.proofs.first.FirstPassPass.merge.Goals as goal

pub returns-clause-both : goal.returns-clause-both
returns-clause-both g c a b apart p q = rw c.in_ok-append.ensures.items (first_joined _ _ a b _ _ p q)
