use Rattle.std.proofs.Common.{ap, subst}
use Rattle.hh_saved.specs.declared.saved.Saved.TheVariants.{Counters}
use Rattle.hh_summaries.specs.Counters.{Fits, SummaryView}
use Rattle.hh_library.proofs.AccumulatorFacts.{entries_translated}
use Rattle.hh_library.proofs.accumulator.monitored.Goals as goal

pub returns-in-Ok-clause-same_ok : goal.returns-in-Ok-clause-same_ok
returns-in-Ok-clause-same_ok c =
    let fits = subst (λ (s : SummaryView). Fits s.k s.total s.counters) c.summary.view_is c.summary.invariant in
    rw (c.total.ensures.total, c.sum.ensures.sum, c.in-Ok.ensures)
    (ap Counters (entries_translated c.args.summary fits c.args.besides))
