use Rattle.std.proofs.Common.{◌≡◌}
use Rattle.hh_workers.specs.Workers.{HasTriedUpTo}
use Rattle.hh_workers.proofs.pass.run_worker.Given as goal

abbrev pub invariant-loop-piece : goal.invariant-loop-piece
invariant-loop-piece g l = record {
  sums : l.seat.sums ≡ l.sums;
  so_far : HasTriedUpTo (g.P.Pass.pieces l.pass) l.piece l.seat;
  made : g.P.Pass.is_made l.pass l.seat.claims l.made;
}
