use Rattle.std.proofs.Common.{sym, ap, ◌∙◌}
use Rattle.hh_summaries.specs.Counters.{SummaryView}
use Rattle.hh_counters.specs.SpaceSaving.{least_of}
use Rattle.hh_counters.proofs.TakingOver.{fits_lowered}
use Rattle.hh_counters.proofs.space_saving.SpaceSavingMonitor.into_summary.Goals as goal

pub from_entries-requires : goal.from_entries-requires
from_entries-requires c =
    let least = c.least-least.ensures ∙ ap (λ (s : SummaryView). least_of s.counters s.k) (sym c.self.view_is) in
    fits_lowered _ _ _ _ _ c.self.invariant least c.lower_all.ensures
