use Rattle.std.proofs.Common.{◌≡◌, take, sym, ap, ◌∙◌}
use Rattle.hh_stream.specs.Weights.{Entry}
use Rattle.hh_summaries.specs.Counters.{SummaryView, sketch_with, sketch_of}
use Rattle.hh_summaries.proofs.Summaries.{sketch_more, sketch_nothing}
use Rattle.hh_summaries.proofs.summary.Summary.of_items.Goals as goal

pub loop-item-init : goal.loop-item-init
loop-item-init c = c.in-Ok.ensures.empty ∙ sym (sketch_nothing c.args.k)

pub loop-item-preserved : goal.loop-item-preserved
loop-item-preserved c =
    let i = c.loop-item.item-index in
    let item : Entry = c.item-item.result in
    let taken : Entry = (c.bytes.result.now, c.weight.result) in
    let same : taken ≡ item = λ j. ((c.bytes.ensures.bytes ∙ c.key.ensures) j, c.weight.ensures.weight j) in
    let before = sketch_of c.args.k (take i c.args.items.now) in
    c.in-Ok-add_within.ensures.added
    ∙ ap (λ (s : SummaryView). sketch_with s taken) c.loop-item.invariant
    ∙ ap (sketch_with before) same
    ∙ sym (sketch_more c.args.k c.args.items.now i item c.loop-item-test.true c.item-item.is)
