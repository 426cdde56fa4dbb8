use Rattle.std.proofs.Common.{◌≡◌, ◌++◌, ℕ, map}
use Rattle.hh_summaries.specs.Counters.{SummaryView}
use Rattle.hh_pool.proofs.first.FirstPass.in_order.Given as goal

abbrev pub invariant-loop-summary : goal.invariant-loop-summary
invariant-loop-summary g l =
    map (λ (it : ℕ × SummaryView). it.1) l.initial.summary-iterator.rest.items ≡ l.summaries.items
    ++ map (λ (it : ℕ × SummaryView). it.1) l.summary-iterator.rest.items
