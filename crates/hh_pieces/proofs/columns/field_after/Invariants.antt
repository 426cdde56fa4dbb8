use Rattle.std.proofs.Common.{◌-◌, ◌≤◌}
use Rattle.hh_pieces.specs.Lines.{AreBetween, EndsRun, is_field_end}
use Rattle.hh_pieces.proofs.columns.field_after.Given as goal

abbrev pub invariant-loop-passed : goal.invariant-loop-passed
invariant-loop-passed l = record {
  few : l.passed ≤ l.count;
  between : AreBetween l.fn.delimiter l.text l.fn.field.from l.passed l.later.from;
  end : EndsRun (is_field_end l.fn.delimiter) l.text l.later.from l.later.end;
}

abbrev pub decreases-loop-passed : goal.decreases-loop-passed
decreases-loop-passed l = l.count - l.passed
