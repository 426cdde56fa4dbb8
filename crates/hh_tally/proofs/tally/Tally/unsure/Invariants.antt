use Rattle.std.proofs.Common.{◌≡◌, take}
use Rattle.hh_tally.specs.Tallies.{unsure_of}
use Rattle.hh_tally.proofs.tally.Tally.unsure.Given as goal

abbrev pub invariant-loop-key : goal.invariant-loop-key
invariant-loop-key l = l.left.items ≡ unsure_of l.self (take l.key-index l.entries)
