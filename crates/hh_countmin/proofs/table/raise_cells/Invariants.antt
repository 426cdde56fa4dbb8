use Rattle.hh_countmin.proofs.Raising.{cell_in_row, IsRaised}
use Rattle.hh_countmin.proofs.table.raise_cells.Given as goal

abbrev pub invariant-loop-r : goal.invariant-loop-r
invariant-loop-r l = IsRaised l.width l.weight (cell_in_row l.family l.fingerprint l.width) l.initial.cells l.cells l.r
