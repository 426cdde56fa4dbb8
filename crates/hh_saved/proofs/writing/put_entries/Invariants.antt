use Rattle.std.proofs.Common.{◌≡◌, ◌++◌, take}
use Rattle.std.specs.List.{flat_map, AllByRecursion}
use Rattle.hh_saved.specs.declared.format.Version.TheVariants.{Two}
use Rattle.hh_saved.specs.Spelling.{IsSavedKey, entry_bytes}
use Rattle.hh_saved.proofs.writing.put_entries.Given as goal

abbrev pub invariant-loop-i : goal.invariant-loop-i
invariant-loop-i l =
    (l.out.items ≡ l.fn.out.items ++ flat_map (entry_bytes Two) (take l.i l.summary.counters))
    × AllByRecursion (λ e. IsSavedKey Two e.0) (take l.i l.summary.counters)
