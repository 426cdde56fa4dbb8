use Rattle.std.proofs.Common.{◌∙◌, ap, arith}
use Rattle.hh_saved.specs.declared.saved.Saved.TheVariants.{Counters}
use Rattle.hh_summaries.specs.Counters.{SummaryView, merge_of}
use Rattle.hh_library.specs.declared.accumulator.Form.TheVariants.{Whole}
use Rattle.hh_library.proofs.AccumulatorFacts.{merged_heavier, nothing_fits}
use Rattle.hh_library.proofs.accumulator.summary_as_whole.Goals as goal

pub from_entries-whole-requires : goal.from_entries-whole-requires
from_entries-whole-requires c =
    rw (c.k.ensures.k, c.new.ensures.items)
    (nothing_fits c.args.summary c.k.ensures.fits c.args.besides (omega (arith, c.requires)))

pub returns-in-Ok-clause-value : goal.returns-in-Ok-clause-value
returns-in-Ok-clause-value c =
    let nothing = c.from_entries-whole.ensures
    ∙ (λ j. record { k = c.k.ensures.k j; total = c.args.besides; counters = c.new.ensures.items j }) in
    ap (λ (s : SummaryView). Whole (Counters s)) (c.in-Ok.ensures.merged ∙ ap (λ (s : SummaryView). merge_of s c.args.summary) nothing
    ∙ merged_heavier c.args.summary c.k.ensures.fits c.args.besides)
