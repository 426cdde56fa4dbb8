use Rattle.std.proofs.Common.{◌≡◌, ◌+◌, take, sum}
use Rattle.hh_countmin.proofs.table.sums_to.Given as goal

abbrev pub invariant-loop-cell : goal.invariant-loop-cell
invariant-loop-cell l = sum (take l.cell-index l.cells) + l.left ≡ l.total
