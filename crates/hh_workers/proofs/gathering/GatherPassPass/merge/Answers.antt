use Rattle.std.proofs.Common.{◌++◌}
use Rattle.std.proofs.lemmas.Result.{IfOk-weaker}
use Rattle.hh_shared.specs.Seats.{Holding}
use Rattle.hh_shared.specs.Numbers.{AreDisjoint}
use Rattle.hh_workers.specs.Gathered.{Gathers}
use Rattle.hh_workers.proofs.GatherFacts.{both_refused, gathers_both}
use Rattle.hh_workers.proofs.gathering.GatherPassPass.merge.Goals as goal

pub returns-clause-both : goal.returns-clause-both
returns-clause-both g c =
    let pieces = c.args.self.now.pieces.now in
    let start = c.args.self.now.start.now in
    let is_of = g.T.Sketch.is_of start in
    let known = g.P.Pieces.known pieces in
    let lists = g.P.Pieces.pieces pieces in
    IfOk-weaker _ _ (λ both. (a b : Holding) → AreDisjoint a.claims b.claims
    → Gathers is_of known lists a.claims c.args.one → Gathers is_of known lists b.claims c.args.other
    → Gathers is_of known lists (a.claims ++ b.claims) both)
    (λ both joined a b apart p q.
    gathers_both is_of known lists a.claims b.claims c.args.one c.args.other apart p q both
    (joined start p.xs q.xs p.made q.made))
    c.merge.ensures.both

pub returns-clause-refused : goal.returns-clause-refused
returns-clause-refused g c is a b apart p q known =
    let pieces = c.args.self.now.pieces.now in
    let start = c.args.self.now.start.now in
    both_refused (g.T.Sketch.is_of start) (g.P.Pieces.known pieces) (g.P.Pieces.pieces pieces) a.claims b.claims
    c.args.one c.args.other apart p q (g.P.Pieces.refuses pieces)
    (c.merge.ensures.refused is start p.xs q.xs p.made q.made) known
