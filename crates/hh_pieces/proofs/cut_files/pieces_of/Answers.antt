use Rattle.hh_pieces.proofs.FileFacts.{files-more, files-read}
use Rattle.hh_pieces.proofs.cut_files.pieces_of.Goals as goal

pub loop-number-preserved : goal.loop-number-preserved
loop-number-preserved g c =
    files-more c.args.layout.now g.S.ReadAt.bytes c.args.sources.now c.loop-number.number c.index-sources-number.result
    c.loop-number.pieces.items c.add_source.new.pieces.items c.loop-number-test.true c.index-sources-number.is
    (c.in_ok-add_source.ensures c.if-not-branch.false) c.loop-number.invariant

pub returns-clause-read : goal.returns-clause-read
returns-clause-read g c =
    files-read c.args.layout.now c.feeds_outside_quotes_are_cuts.ensures c.pieces_are_read.ensures g.S.ReadAt.bytes
    c.args.sources.now c.loop-number.number c.loop-number.pieces.items c.loop-number-test.false c.loop-number.invariant
