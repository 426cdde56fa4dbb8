use Rattle.std.proofs.Common.{arith}
use Rattle.hh_workers.proofs.GatherFacts.{gathers_all}
use Rattle.hh_workers.proofs.gathering.gather_pieces.Goals as goal

pub returns-clause-made : goal.returns-clause-made
returns-clause-made g c =
    let pieces = c.args.pieces.now in
    let start = c.args.start.now in
    let (numbers, each, p) = c.in_ok-made.ensures.made in
    gathers_all (g.T.Sketch.is_of start) (g.P.Pieces.known pieces) (g.P.Pieces.pieces pieces) numbers
    c.in_ok-made.made each p (omega (
      arith,
      c.follow_items.ensures.weighs start c.in_ok-made.made p.xs p.made,
      c.total-total.ensures.total,
      c.total-total.ensures.bounded,
    ))
