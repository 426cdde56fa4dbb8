use Rattle.std.proofs.Common.{◌∙◌, filter, zip}
use Rattle.hh_summaries.specs.Report.{is_heavy}
use Rattle.hh_summaries.proofs.Reports.{over_whole}
use Rattle.hh_counters.proofs.counts.Counts.rows.Goals as goal

pub returns : goal.returns
returns c =
    let ks = c.self.inside.candidates.now in
    let ns = c.self.inside.weights.items in
    rw (← c.self.view_is) (c.in_ok-rows.ensures.rows
    ∙ (λ i. filter (is_heavy 1 1 0) (zip (c.keys.ensures i) (c.deref.ensures.value i)))
    ∙ over_whole 0 (zip ks ns))
