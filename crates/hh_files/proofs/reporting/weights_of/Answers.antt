use Rattle.std.proofs.Common.{List, ap, ◌∙◌, subst}
use Rattle.std.specs.Map.{keys_of}
use Rattle.hh_stream.specs.Weights.{Bytes, Entry}
use Rattle.hh_pieces.specs.Sources.{sources_known}
use Rattle.hh_files.specs.FilePasses.{WeighsRecords}
use Rattle.hh_files.proofs.SourceReportFacts.{weights_found}
use Rattle.hh_files.proofs.reporting.weights_of.Goals as goal

pub returns-clause-weights : goal.returns-clause-weights
returns-clause-weights g c =
    let known = sources_known g.S.ReadAt.bytes c.args.records in
    let keys = c.in_ok-candidates.ensures
    ∙ ap (λ (es : List Entry). keys_of es) (c.deref.ensures.value ∙ c.in_ok-unsure.ensures.unsure) in
    let counted = subst (λ (ks : List Bytes). WeighsRecords known ks c.in_ok-counted.counted.items) keys
    c.in_ok-counted.ensures.weights in
    weights_found known.names_columns c.args.tally.now c.args.contenders.now known.reading _ _ c.requires.tally counted
    (λ xs bounds is. c.in_ok-weights.ensures.weights xs bounds (c.deref-2.ensures.value ∙ is))
