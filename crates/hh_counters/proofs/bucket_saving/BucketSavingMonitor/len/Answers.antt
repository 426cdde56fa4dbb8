use Rattle.std.proofs.Common.{◌∙◌, arith}
use Rattle.hh_counters.proofs.Linked.{length-linked}
use Rattle.hh_counters.proofs.bucket_saving.BucketSavingMonitor.len.Goals as goal

pub returns-clause-len : goal.returns-clause-len
returns-clause-len c = rw (← c.self.view_is) (c.len.ensures.len ∙ length-linked _ _ _ _ c.self.invariant)

pub returns-clause-few : goal.returns-clause-few
returns-clause-few c =
    let linked = c.self.invariant in
    rw (← c.self.view_is) (omega (arith, c.len.ensures.len, length-linked _ _ _ _ linked, linked.monitor.few))
