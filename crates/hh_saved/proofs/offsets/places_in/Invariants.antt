use Rattle.std.proofs.Common.{◌≡◌, drop, map, take, All}
use Rattle.std.specs.List.{flat_map}
use Rattle.hh_saved.specs.Sizes.{LiesIn, entry_in}
use Rattle.hh_saved.specs.Spelling.{entry_bytes}
use Rattle.hh_saved.proofs.offsets.places_in.Given as goal

-- here the entries begin that are left; those before have their places, which lie within the file
abbrev pub invariant-loop-i : goal.invariant-loop-i
invariant-loop-i l =
    (drop l.start l.bytes ≡ flat_map (entry_bytes l.fn.version) (drop l.i l.summary.counters))
    × (map (entry_in l.bytes) l.places.items ≡ take l.i l.summary.counters)
    × All (LiesIn l.bytes) l.places.items
