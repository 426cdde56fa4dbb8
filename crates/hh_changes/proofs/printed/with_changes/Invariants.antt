use Rattle.std.proofs.Common.{◌≡◌, take}
use Rattle.hh_rows.specs.Outputs.{with_rows}
use Rattle.hh_changes.specs.Printed.{change_fields}
use Rattle.hh_changes.proofs.printed.with_changes.Given as goal

abbrev pub invariant-loop-change : goal.invariant-loop-change
invariant-loop-change l =
    l.rows ≡ with_rows l.fn.before (change_fields l.options l.sides) (take l.change-index l.changes)
