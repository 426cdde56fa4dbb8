use Rattle.std.proofs.Common.{◌≡◌, ◌∙◌, List, ap, subst, zip}
use Rattle.std.specs.Map.{keys_of}
use Rattle.hh_stream.specs.Weights.{Entry}
use Rattle.hh_summaries.specs.Report.{rows_above}
use Rattle.hh_pieces.specs.Sources.{sources_known}
use Rattle.hh_files.specs.FilePasses.{WeighsRecords}
use Rattle.hh_files.proofs.SourceReportFacts.{keys_found}
use Rattle.hh_files.proofs.reporting.heavy_by.Goals as goal

pub returns-clause-keys : goal.returns-clause-keys
returns-clause-keys g c =
    let known = sources_known g.S.ReadAt.bytes c.args.records in
    let es = c.in_ok-contenders.contenders.items in
    let weights = c.in_ok-weights.weights.items in
    let weighed = subst (λ (xs : List Entry). WeighsRecords known (keys_of xs) weights) c.deref.ensures.value
    c.in_ok-weights.ensures.weights in
    let keys : c.in_ok-candidates.candidates ≡ keys_of es =
    c.in_ok-candidates.ensures ∙ ap (λ (xs : List Entry). keys_of xs) c.deref-2.ensures.value in
    keys_found known.names_columns c.args.tally.now es known.reading c.args.p c.args.q weights
    c.in_ok-select.field-0.items c.requires.tally weighed c.in_ok-contenders.ensures.report
    (c.in_ok-select.ensures.rows ∙ (λ i.
    rows_above c.args.p c.args.q (c.total.ensures.total i) (zip (keys i) (c.deref-3.ensures.value i))))
