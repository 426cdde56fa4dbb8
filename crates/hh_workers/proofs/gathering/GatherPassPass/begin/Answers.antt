use Rattle.std.proofs.Common.{[]}
use Rattle.std.proofs.lemmas.Result.{IfOk-weaker}
use Rattle.hh_workers.specs.Gathered.{Gathers}
use Rattle.hh_workers.proofs.GatherFacts.{gathers_none}
use Rattle.hh_workers.proofs.gathering.GatherPassPass.begin.Goals as goal

pub returns : goal.returns
returns g c =
    let pieces = c.args.self.now.pieces.now in
    let is_of = g.T.Sketch.is_of c.args.self.now.start.now in
    IfOk-weaker _ _ (λ t. Gathers is_of (g.P.Pieces.known pieces) (g.P.Pieces.pieces pieces) [] t)
    (λ t made. gathers_none is_of (g.P.Pieces.known pieces) (g.P.Pieces.pieces pieces) t made) c.fresh.ensures
