use Rattle.std.proofs.Common.{◌≡◌, ◌++◌, take}
use Rattle.std.specs.List.{flat_map}
use Rattle.hh_saved.specs.Spelling.{pair_bytes}
use Rattle.hh_saved.proofs.writing.put_rows.Given as goal

abbrev pub invariant-loop-r : goal.invariant-loop-r
invariant-loop-r l = l.out.items ≡ l.fn.out.items ++ flat_map pair_bytes (take l.r l.family.rows)
