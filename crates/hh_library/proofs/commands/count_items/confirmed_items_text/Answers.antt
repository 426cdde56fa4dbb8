use Rattle.std.proofs.Common.{ap}
use Rattle.std.proofs.lemmas.Result.{MatchResult-weaker}
use Rattle.hh_counters.specs.Counting.{Count}
use Rattle.hh_library.proofs.CountFacts.{total_refused}
use Rattle.hh_library.proofs.commands.count_items.confirmed_items_text.Goals as goal

pub returns-clause-refused : goal.returns-clause-refused
returns-clause-refused c =
    let counted = c.in_ok-counts.ensures in
    let total = ap (λ (n : Count). n.total) counted.counts.1 in
    rw (counted.passes, ← total)
    (MatchResult-weaker c.counted_text.result c.counted_text.ensures.refused (λ _ h. h)
    (total_refused c.args.summary.now.total c.in_ok-counts.counts.total _))
