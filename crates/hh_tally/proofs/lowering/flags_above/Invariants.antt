use Rattle.std.proofs.Common.{◌≡◌, Bool, length, map, take}
use Rattle.std.specs.Map.{keys_of}
use Rattle.hh_stream.specs.Weights.{Bytes}
use Rattle.hh_summaries.specs.Counters.{lower}
use Rattle.hh_tally.specs.Tallies.{AreFlags}
use Rattle.hh_tally.proofs.lowering.flags_above.Given as goal

abbrev pub invariant-loop-i : goal.invariant-loop-i
invariant-loop-i l = ((test : Bytes → Bool) → AreFlags l.sure l.rest (keys_of l.index.entries) test
    → l.kept.items ≡ map test (keys_of (lower l.t (take l.i l.index.entries))))
    × (length l.kept.items ≡ length (lower l.t (take l.i l.index.entries)))
