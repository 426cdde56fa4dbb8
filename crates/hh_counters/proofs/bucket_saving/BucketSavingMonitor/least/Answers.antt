use Rattle.std.proofs.Common.{sym, ◌∙◌, arith}
use Rattle.hh_counters.proofs.Stepping.{least_of_full}
use Rattle.hh_counters.proofs.Linked.{least_free, length-linked}
use Rattle.hh_counters.proofs.bucket_saving.BucketSavingMonitor.least.Goals as goal

pub returns-then-len-self : goal.returns-then-len-self
returns-then-len-self c = rw (← c.self.view_is) (least_free _ _ _ _ c.self.invariant (omega arith))

pub returns : goal.returns
returns c =
    let long = length-linked _ _ _ _ c.self.invariant in
    rw (← c.self.view_is) (c.least_in.ensures ∙ sym
    (least_of_full _ c.self.inside.k (omega (arith, long, c.len.ensures.len, c.if-len-self.false))))
