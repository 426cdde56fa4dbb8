use Rattle.hh_commands.proofs.NameFacts.{AreTaken}
use Rattle.hh_commands.proofs.commands.condense.free_name.Given as goal

abbrev pub invariant-loop-number : goal.invariant-loop-number
invariant-loop-number l = AreTaken l.summary.counters l.number
