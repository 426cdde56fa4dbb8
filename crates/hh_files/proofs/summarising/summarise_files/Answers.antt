use Rattle.hh_pieces.specs.Sources.{sources_known}
use Rattle.hh_files.proofs.SummaryFacts.{saved_summarises}
use Rattle.hh_files.proofs.summarising.summarise_files.Goals as goal

pub returns-then-workers-eq1-clause-saved : goal.returns-then-workers-eq1-clause-saved
returns-then-workers-eq1-clause-saved g c =
    saved_summarises c.misra_gries_is_honest.ensures c.args.k
    (sources_known g.S.ReadAt.bytes c.args.records) c.in_ok-bytes.bytes.items
    c.in_ok-bytes.ensures.saved
