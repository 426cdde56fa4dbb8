use Rattle.std.proofs.Common.{ap, ◌+◌, sym, subst, arith}
use Rattle.hh_summaries.specs.Counters.{SummaryView}
use Rattle.hh_counters.specs.SpaceSaving.{IsMonitor}
use Rattle.hh_counters.proofs.TakingOver.{monitor_step}
use Rattle.hh_counters.proofs.space_saving.SpaceSavingMonitor.add_within.Goals as goal

pub invariant_of-self-2 : goal.invariant_of-self-2
invariant_of-self-2 c =
    let inside = c.self.inside in
    subst (IsMonitor inside.k (inside.total + c.args.weight)) (sym c.in_ok-add_item.ensures.step)
    (monitor_step inside.k inside.total inside.entries.items (c.args.key.now, c.args.weight) c.self.invariant
    c.requires.positive (omega (arith, ap (λ (s : SummaryView). s.total) c.self.view_is)))
