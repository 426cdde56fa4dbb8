use Rattle.std.proofs.Common.{◌≡◌, ◌++◌, take}
use Rattle.hh_saved.specs.Spelling.{cells_bytes}
use Rattle.hh_saved.proofs.writing.put_cells.Given as goal

abbrev pub invariant-loop-cell : goal.invariant-loop-cell
invariant-loop-cell l = l.out.items ≡ l.fn.out.items ++ cells_bytes (take l.cell-index l.cells)
