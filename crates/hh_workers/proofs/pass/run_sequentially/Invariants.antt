use Rattle.std.proofs.Common.{ℕ, List}
use Rattle.hh_workers.specs.Workers.{HasEach}
use Rattle.hh_workers.proofs.pass.run_sequentially.Given as goal

abbrev pub invariant-loop-piece : goal.invariant-loop-piece
invariant-loop-piece g l = (numbers : List ℕ) × HasEach l.piece numbers × g.P.Pass.is_made l.pass numbers l.made
