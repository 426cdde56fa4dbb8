use Rattle.std.proofs.Common.{◌<◌, List, sym, ap, ◌∙◌, subst}
use Rattle.std.specs.List.{AllByRecursion}
use Rattle.std.proofs.lemmas.Map.Made.{IsDistinct-keys_filter}
use Rattle.hh_stream.specs.Weights.{Entry, same_key}
use Rattle.hh_summaries.specs.Counters.{exceeds, lower, tally}
use Rattle.hh_summaries.proofs.Reports.{lower-above, positive-above, tally-above}
use Rattle.hh_summaries.proofs.Weights.{Distinct}
use Rattle.hh_counters.proofs.bucket_saving.translated_entries.Goals as goal

pub sort_by_key-requires-clause-distinct : goal.sort_by_key-requires-clause-distinct
sort_by_key-requires-clause-distinct c =
    subst (λ (es : List Entry). Distinct es) (sym c.in_ok-entries.ensures)
    (IsDistinct-keys_filter same_key (exceeds c.args.least) c.args.index.now.entries c.requires.distinct)

pub sort_by_key-requires-clause-positive : goal.sort_by_key-requires-clause-positive
sort_by_key-requires-clause-positive c =
    subst (AllByRecursion (λ (e : Entry). 0 < e.1)) (sym c.in_ok-entries.ensures)
    (positive-above c.args.least c.args.index.now.entries)

pub returns : goal.returns
returns c =
    let es = c.args.index.now.entries in
    let above = c.sort_by_key.ensures.sorted ∙ ap (λ (ds : List Entry). tally ds) c.in_ok-entries.ensures
    ∙ tally-above c.args.least es c.requires.distinct in
    c.lower_all.ensures ∙ ap (λ (ds : List Entry). lower c.args.least ds) above ∙ lower-above c.args.least (tally es)
