use Rattle.std.proofs.Common.{drop}
use Rattle.hh_pieces.proofs.KnownFacts.{KnownSoFar}
use Rattle.hh_pieces.proofs.SourceFacts.{reader_left}
use Rattle.hh_pieces.proofs.sources.readers_of.Given as goal

abbrev pub invariant-loop-source : goal.invariant-loop-source
invariant-loop-source g l =
    KnownSoFar g.S.ReadAt.bytes (reader_left g.S.ReadAt.bytes) l.sources (drop l.source-index l.sources) l.readers.items
