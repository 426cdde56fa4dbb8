use Rattle.std.proofs.lemmas.List.{drop_all}
use Rattle.hh_pieces.proofs.KnownFacts.{known-end, known-start}
use Rattle.hh_pieces.proofs.SourceFacts.{known-next, reader_left}
use Rattle.hh_pieces.proofs.sources.readers_of.Goals as goal

pub loop-source-init : goal.loop-source-init
loop-source-init g c =
    rw c.new-readers.ensures.items
    (known-start g.S.ReadAt.bytes (reader_left g.S.ReadAt.bytes) c.args.sources.now)

pub loop-source-preserved : goal.loop-source-preserved
loop-source-preserved g c =
    rw c.in_ok-push.ensures.items
    (known-next g.S.ReadAt.bytes (reader_left g.S.ReadAt.bytes) c.args.sources.now c.loop-source.source-index
    c.source-item.result c.loop-source.readers.items c.read_all.result c.loop-source-test.true c.source-item.is
    c.loop-source.invariant c.read_all.ensures)

pub returns : goal.returns
returns g c =
    known-end g.S.ReadAt.bytes (reader_left g.S.ReadAt.bytes) c.args.sources.now _
    (rw (drop_all c.loop-source.source-index c.args.sources.now c.loop-source-test.false) at c.loop-source.invariant)
