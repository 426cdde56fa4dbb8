use Rattle.std.proofs.Common.{rules}
use Rattle.hh_workers.proofs.workers.join_halves.Goals as goal

pub returns-in_err-both-clause-both : goal.returns-in_err-both-clause-both
returns-in_err-both-clause-both c = search rules

pub returns-clause-joined : goal.returns-clause-joined
returns-clause-joined c = search rules

pub returns-clause-both : goal.returns-clause-both
returns-clause-both c = search rules
