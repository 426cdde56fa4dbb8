use Rattle.std.proofs.Common.{arith}
use Rattle.std.proofs.lemmas.Bool.Decides.{nat_tests}
use Rattle.hh_counters.proofs.TakingOver.{monitor_nothing}
use Rattle.hh_counters.proofs.space_saving.SpaceSaving.new.Goals as goal

pub invariant_of-result : goal.invariant_of-result
invariant_of-result c = rw c.new.ensures.items (monitor_nothing c.args.k (grind (arith, nat_tests))
    (grind (arith, nat_tests)))
