use Rattle.std.proofs.Common.{◌≡◌, ◌+◌, drop, take}
use Rattle.hh_library.specs.Add.{bad_item, entries}
use Rattle.hh_commands.specs.Records.{IsCountOf}
use Rattle.hh_library.proofs.items.count_items.Given as goal

-- the items that are left have the first fault of all, and those before them are counted
abbrev pub invariant-loop-i : goal.invariant-loop-i
invariant-loop-i l =
    (bad_item (l.i + 1) l.counts.total (drop l.i (entries l.items)) ≡ bad_item 1 0 (entries l.items))
    × IsCountOf l.candidates (entries (take l.i l.items)) l.counts
