use Rattle.std.proofs.Common.{◌≤◌}
use Rattle.hh_pieces.proofs.cut_files.find_feed.Given as goal

abbrev pub invariant-loop : goal.invariant-loop
invariant-loop g l = l.fn.from ≤ l.at
