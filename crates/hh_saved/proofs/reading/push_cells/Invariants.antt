use Rattle.std.proofs.Common.{◌≡◌, ◌++◌}
use Rattle.hh_saved.specs.Reading.{cells_in}
use Rattle.hh_saved.proofs.reading.push_cells.Given as goal

abbrev pub invariant-loop-i : goal.invariant-loop-i
invariant-loop-i l = l.cells.items ≡ l.fn.cells.items ++ cells_in l.i l.bytes
