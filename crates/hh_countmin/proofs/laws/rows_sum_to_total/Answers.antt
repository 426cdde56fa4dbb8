use Rattle.hh_countmin.proofs.Cells.{sum_over-cell_sum}
use Rattle.hh_countmin.proofs.laws.rows_sum_to_total.Goals as goal

pub returns : goal.returns
returns c = sum_over-cell_sum
