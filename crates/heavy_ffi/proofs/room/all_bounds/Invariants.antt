use Rattle.std.proofs.Common.{◌≡◌, map, take}
use Rattle.heavy_ffi.specs.Outcomes.{both_of}
use Rattle.heavy_ffi.proofs.room.all_bounds.Given as goal

abbrev pub invariant-loop-pair : goal.invariant-loop-pair
invariant-loop-pair l = map both_of l.all.items ≡ take l.pair-index l.pairs
