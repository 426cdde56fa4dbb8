use Rattle.std.proofs.Common.{ap, ◌+◌, sym, subst, [], ◌∷◌, arith}
use Rattle.hh_stream.specs.Weights.{Entry}
use Rattle.hh_summaries.specs.Counters.{Fits, SummaryView}
use Rattle.hh_summaries.proofs.Summaries.{fits_join}
use Rattle.hh_summaries.proofs.summary.Summary.add_within.Goals as goal

pub invariant_of-self-2 : goal.invariant_of-self-2
invariant_of-self-2 c =
    let inside = c.self.inside in
    let item : Entry = (c.args.key.now, c.args.weight) in
    subst (Fits inside.k (inside.total + c.args.weight)) (sym c.in_ok-add_item.ensures.joined)
    (fits_join inside.entries.items (item ∷ []) inside.total c.args.weight inside.k c.self.invariant (omega arith)
    (omega (arith, ap (λ (s : SummaryView). s.total) c.self.view_is)))
