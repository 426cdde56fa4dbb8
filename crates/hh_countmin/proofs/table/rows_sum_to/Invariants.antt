use Rattle.std.proofs.Common.{◌≡◌, ℕ, ◌<◌, sum}
use Rattle.hh_countmin.specs.Table.{row_at}
use Rattle.hh_countmin.proofs.table.rows_sum_to.Given as goal

abbrev pub invariant-loop-r : goal.invariant-loop-r
invariant-loop-r l = (q : ℕ) → q < l.r → sum (row_at l.width l.cells q) ≡ l.total
