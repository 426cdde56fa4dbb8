use Rattle.std.proofs.Common.{◌≡◌, ◌+◌, drop}
use Rattle.hh_library.specs.Add.{bad_item, total_in, value_and, entries}
use Rattle.hh_library.proofs.commands.add.add_all.Given as goal

-- the items that are left have the first fault of all, and make of the value what all make
abbrev pub invariant-loop-i : goal.invariant-loop-i
invariant-loop-i l =
    (bad_item (l.i + 1) (total_in l.value) (drop l.i (entries l.items))
    ≡ bad_item 1 (total_in l.fn.value) (entries l.items))
    × (value_and l.value (drop l.i (entries l.items)) ≡ value_and l.fn.value (entries l.items))
