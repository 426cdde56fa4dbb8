use Rattle.std.proofs.Common.{ap, arith}
use Rattle.hh_summaries.specs.Counters.{SummaryView}
use Rattle.hh_counters.proofs.Linked.{linked_more}
use Rattle.hh_counters.proofs.bucket_saving.BucketSavingMonitor.add_within.Goals as goal

pub invariant_of-self-2 : goal.invariant_of-self-2
invariant_of-self-2 c =
    linked_more _ _ _ _ _ _ (c.args.key.now, c.args.weight) c.self.invariant c.requires.positive
    (omega (arith, ap (λ (s : SummaryView). s.total) c.self.view_is))
    c.in_ok-add_item.ensures.taken
