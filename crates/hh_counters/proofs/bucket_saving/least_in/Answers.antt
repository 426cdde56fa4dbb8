use Rattle.std.proofs.Common.{arith}
use Rattle.hh_counters.proofs.Gathering.{least_of_all}
use Rattle.hh_counters.proofs.bucket_saving.least_in.Goals as goal

pub returns : goal.returns
returns c = least_of_all c.args.index.now.entries c.loop-i.i c.loop-i.least c.requires.distinct c.requires.positive
    (omega (arith, c.loop-i-test.false, c.loop-i.auto.i-end, c.len-i-end.ensures.len)) c.loop-i.invariant
