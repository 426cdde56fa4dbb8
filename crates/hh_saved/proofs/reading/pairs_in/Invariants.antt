use Rattle.std.proofs.Common.{◌≡◌}
use Rattle.hh_saved.specs.Reading.{blocks_in, pair_of}
use Rattle.hh_saved.proofs.reading.pairs_in.Given as goal

abbrev pub invariant-loop-r : goal.invariant-loop-r
invariant-loop-r l = l.rows.items ≡ blocks_in pair_of 16 l.r l.bytes
