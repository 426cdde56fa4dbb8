use Rattle.hh_library.specs.Add.{entries}
use Rattle.std.proofs.Common.{◌≡◌, take}
use Rattle.hh_library.proofs.commands.laid_out.items_in.Given as goal

-- the items that were taken
abbrev pub invariant-loop-item : goal.invariant-loop-item
invariant-loop-item l = entries l.items.items ≡ take l.item-index l.stream
