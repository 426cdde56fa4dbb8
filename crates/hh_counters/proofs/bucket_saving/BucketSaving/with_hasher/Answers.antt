use Rattle.std.proofs.Common.{refl, arith}
use Rattle.std.proofs.lemmas.Bool.Decides.{nat_tests}
use Rattle.hh_summaries.specs.Counters.{tally}
use Rattle.hh_counters.proofs.Linked.{nothing_linked}
use Rattle.hh_counters.proofs.bucket_saving.BucketSaving.with_hasher.Goals as goal

pub invariant_of-result : goal.invariant_of-result
invariant_of-result c =
    rw c.in_ok-index.ensures.empty (nothing_linked c.args.k c.new.result (grind (arith, nat_tests, c.requires))
    (grind (arith, nat_tests, c.requires)) c.new.ensures.empty)

pub returns : goal.returns
unfolding tally
returns c = rw c.in_ok-index.ensures.empty refl
