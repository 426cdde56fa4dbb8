use Rattle.hh_pieces.specs.Sources.{sources_known}
use Rattle.hh_files.proofs.SummaryFacts.{tally_summarises}
use Rattle.hh_files.proofs.summarising.summary_of_sources.Goals as goal

pub returns-clause-summary : goal.returns-clause-summary
returns-clause-summary g c =
    tally_summarises c.args.k c.for_counters-room.result (sources_known g.S.ReadAt.bytes c.args.records) c.in_ok-tally.tally
    c.in_ok-summary.summary c.for_counters-room.ensures.share c.in_ok-tally.ensures.tally c.in_ok-summary.ensures.summary
    c.in_ok-summary.ensures.honest
