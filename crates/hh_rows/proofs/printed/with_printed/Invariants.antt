use Rattle.std.proofs.Common.{◌≡◌, take}
use Rattle.hh_rows.specs.Outputs.{with_rows}
use Rattle.hh_rows.specs.Printed.{printed_fields}
use Rattle.hh_rows.proofs.printed.with_printed.Given as goal

abbrev pub invariant-loop-row : goal.invariant-loop-row
invariant-loop-row l = l.all ≡ with_rows l.fn.before (printed_fields l.total l.options) (take l.row-index l.rows)
