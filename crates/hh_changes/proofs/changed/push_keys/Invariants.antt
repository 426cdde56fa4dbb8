use Rattle.std.proofs.Common.{◌≡◌, ◌++◌, take}
use Rattle.std.specs.Map.{keys_of}
use Rattle.hh_changes.specs.Changes.{listed}
use Rattle.hh_changes.proofs.changed.push_keys.Given as goal

abbrev pub invariant-loop-entry : goal.invariant-loop-entry
invariant-loop-entry l = l.changes.items
    ≡ l.fn.changes.items ++ listed l.all l.sides (keys_of (take l.entry-index l.entries))
