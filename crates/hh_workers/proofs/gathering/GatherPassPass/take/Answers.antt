use Rattle.std.proofs.Common.{rules, IsErrOf}
use Rattle.hh_stream.specs.declared.taking.PieceFault.TheVariants as fault
use Rattle.hh_workers.proofs.GatherFacts.{gathers_more, piece_refused}
use Rattle.hh_workers.proofs.gathering.GatherPassPass.take.Goals as goal

pub returns-in_err-feed-clause-refused : goal.returns-in_err-feed-clause-refused
returns-in_err-feed-clause-refused g c is numbers distinct made known =
    let pieces = c.args.self.now.pieces.now in
    let start = c.args.self.now.start.now in
    let refused : IsErrOf c.feed.result fault.Refused = search rules in
    piece_refused (g.T.Sketch.is_of start) (g.P.Pieces.known pieces) (g.P.Pieces.pieces pieces)
    (g.P.Pieces.refuses pieces) numbers c.args.piece c.args.made _ c.requires distinct made
    (c.follow_items.ensures.weighs start c.args.made made.xs made.made) (c.feed.ensures.refused refused known) known

pub returns-clause-more : goal.returns-clause-more
returns-clause-more g c numbers distinct made =
    let pieces = c.args.self.now.pieces.now in
    let start = c.args.self.now.start.now in
    gathers_more (g.T.Sketch.is_of start) (g.P.Pieces.known pieces) (g.P.Pieces.pieces pieces) _ _
    (c.follow_items.ensures.more start) numbers c.args.piece c.args.made _ c.in_ok-feed.ensures.taken distinct made
