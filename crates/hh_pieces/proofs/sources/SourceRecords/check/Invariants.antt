use Rattle.std.proofs.Common.{All, take}
use Rattle.hh_pieces.proofs.sources.SourceRecords.check.Given as goal

abbrev pub invariant-loop-source : goal.invariant-loop-source
invariant-loop-source g l = All g.S.ReadAt.still (take l.source-index l.self.sources.now)
