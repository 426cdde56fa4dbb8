use Rattle.std.proofs.Common.{length}
use Rattle.hh_countmin.specs.Table.{cell_sum}
use Rattle.hh_countmin.proofs.Cells.{cell_at-cells_by, same_cells}
use Rattle.hh_countmin.proofs.Estimates.{estimate_in-table_of}
use Rattle.hh_countmin.proofs.laws.cells_are_cell_sums.Goals as goal

pub returns : goal.returns
returns c = λ family width xs. (
  λ r q lt in_row. cell_at-cells_by (λ r q. cell_sum family width r q xs) (length family.rows) width r q lt in_row,
  λ cells len each. same_cells (λ r q. cell_sum family width r q xs) (length family.rows) width cells len each,
  λ some wide key. estimate_in-table_of family width key xs some wide,
)
