use Rattle.std.proofs.Common.{◌≡◌, Bool, length, map, take}
use Rattle.std.specs.Map.{keys_of}
use Rattle.hh_stream.specs.Weights.{Bytes}
use Rattle.hh_tally.specs.Tallies.{AreFlags, and_sure}
use Rattle.hh_tally.proofs.tally.sure_of_both.Given as goal

abbrev pub invariant-loop-i : goal.invariant-loop-i
invariant-loop-i l = ((test : Bytes → Bool) → AreFlags l.sure l.rest (keys_of l.index.entries) test
    → l.both.items ≡ map (and_sure test l.other) (keys_of (take l.i l.index.entries)))
    × (length l.both.items ≡ l.i)
