use Rattle.hh_library.specs.Add.{entries}
use Rattle.std.proofs.Common.{◌≡◌, ◌++◌, drop}
use Rattle.heavy_ffi.specs.Items.{items_from, items_of}
use Rattle.heavy_ffi.proofs.items.items_of.Given as goal

-- the items that are made, then those that are left to make
abbrev pub invariant-loop-i : goal.invariant-loop-i
invariant-loop-i l =
    entries l.items.items
    ++ items_from l.from (drop l.i l.ends) (drop l.i l.weights) l.rest
    ≡ items_of l.keys l.ends l.weights
