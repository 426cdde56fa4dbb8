use Rattle.std.proofs.Common.{arith}
use Rattle.std.proofs.lemmas.Bool.Decides.{nat_tests}
use Rattle.hh_summaries.proofs.Summaries.{fits_nothing}
use Rattle.hh_summaries.proofs.summary.Summary.empty.Goals as goal

pub invariant_of-result : goal.invariant_of-result
invariant_of-result c = rw c.new.ensures.items (fits_nothing c.args.k (grind (arith, nat_tests, c.requires))
    (grind (arith, nat_tests, c.requires)))
