use Rattle.std.proofs.Common.{◌≡◌, List, ap, arith, subst, sym}
use Rattle.std.specs.List.Sorted.{IsStrictlySortedBy}
use Rattle.std.specs.Map.{keys_of}
use Rattle.hh_stream.specs.Weights.{Entry, key_cmp}
use Rattle.hh_summaries.specs.Counters.{exceeds, tally}
use Rattle.hh_summaries.proofs.Reports.{rising-filter}
use Rattle.hh_summaries.proofs.Weights.{rising-tally}
use Rattle.hh_top.specs.Top.{ShortlistView, floor_of}
use Rattle.hh_top.proofs.Chosen.{chosen_few}
use Rattle.hh_top.proofs.choice.Shortlist.chosen.Goals as goal

-- the counters above the floor are at most the greatest ones that are counted
pub returns-clause-few : goal.returns-clause-few
returns-clause-few c =
    let t = c.self.inside.tally in
    let floor = subst (λ (v : ShortlistView). c.floor-floor.result ≡ floor_of v) (sym c.self.view_is)
    c.floor-floor.ensures in
    let few = chosen_few c.self.inside.k c.saturating_sub.result t c.in_ok-entries.entries.items
    (omega (arith, c.saturating_sub.ensures, floor, c.lost.ensures.lost)) c.in_ok-entries.ensures.count in
    omega (arith, few, ap (λ (v : ShortlistView). v.k) c.self.view_is)

pub returns-clause-rising : goal.returns-clause-rising
returns-clause-rising c =
    let es = c.self.inside.tally.counters in
    subst (λ (ds : List Entry). IsStrictlySortedBy key_cmp (keys_of ds)) (sym c.in_ok-entries.ensures.entries)
    (rising-filter (exceeds c.saturating_sub.result) (tally es) (rising-tally es))
