use Rattle.std.proofs.Common.{◌≡◌, take}
use Rattle.hh_stream.specs.Weights.{total_of}
use Rattle.hh_commands.proofs.commands.condense.total_of.Given as goal

abbrev pub invariant-loop-row : goal.invariant-loop-row
invariant-loop-row l = l.total ≡ total_of (take l.row-index l.rows)
