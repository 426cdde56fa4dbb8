use Rattle.std.proofs.Common.{◌<◌, List, length, sym, ap, ◌∙◌, subst}
use Rattle.std.specs.List.{AllByRecursion}
use Rattle.std.proofs.lemmas.List.Sums.{length-filter}
use Rattle.std.proofs.lemmas.Map.Made.{IsDistinct-keys_filter}
use Rattle.hh_stream.specs.Weights.{Entry, same_key}
use Rattle.hh_summaries.specs.Counters.{exceeds, tally}
use Rattle.hh_summaries.proofs.Reports.{positive-above, tally-above}
use Rattle.hh_summaries.proofs.Weights.{Distinct}
use Rattle.hh_tally.proofs.lowering.sorted_above.Goals as goal

pub sort_by_key-requires-clause-distinct : goal.sort_by_key-requires-clause-distinct
sort_by_key-requires-clause-distinct c =
    subst (λ (es : List Entry). Distinct es) (sym c.in_ok-entries.ensures.entries)
    (IsDistinct-keys_filter same_key (exceeds c.args.t) c.args.index.now.entries c.in_ok-entries.ensures.distinct)

pub sort_by_key-requires-clause-positive : goal.sort_by_key-requires-clause-positive
sort_by_key-requires-clause-positive c =
    subst (AllByRecursion (λ (e : Entry). 0 < e.1)) (sym c.in_ok-entries.ensures.entries)
    (positive-above c.args.t c.args.index.now.entries)

pub returns-clause-entries : goal.returns-clause-entries
returns-clause-entries c =
    c.sort_by_key.ensures.sorted ∙ ap (λ (es : List Entry). tally es) c.in_ok-entries.ensures.entries
    ∙ tally-above c.args.t c.args.index.now.entries c.in_ok-entries.ensures.distinct

pub returns-clause-count : goal.returns-clause-count
returns-clause-count c =
    c.sort_by_key.ensures.count ∙ ap length c.in_ok-entries.ensures.entries
    ∙ length-filter (exceeds c.args.t) c.args.index.now.entries
