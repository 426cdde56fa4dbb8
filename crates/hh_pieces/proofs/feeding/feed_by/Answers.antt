use Rattle.std.proofs.Common.{arith}
use Rattle.hh_pieces.proofs.TurnFacts.{piece-by}
use Rattle.hh_pieces.proofs.feeding.feed_by.Goals as goal

pub returns-then-taken-clause-items : goal.returns-then-taken-clause-items
returns-then-taken-clause-items g c =
    let t = c.in-Ok.ensures.items in
    record {
      xs = t.xs;
      given = piece-by c.args.layout.now c.args.columns.now (g.T.TakeItems.weight_taken c.args.taker.now) c.in-Ok.taken.number
          t.xs _ t.given (c.in-Ok.ensures.outside c.if-taken.true) (omega (arith, t.weight, c.in-Ok.ensures.bounded));
      positive = t.positive;
      weight = t.weight;
      taken = t.taken;
    }
