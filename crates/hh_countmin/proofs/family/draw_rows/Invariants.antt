use Rattle.std.proofs.Common.{◌≡◌, ◌++◌, ◌-◌}
use Rattle.hh_countmin.proofs.Drawing.{next_rows}
use Rattle.hh_countmin.proofs.family.draw_rows.Given as goal

-- the rows so far and those still to come are all rows
abbrev pub invariant-loop : goal.invariant-loop
invariant-loop l = l.rows.items ++ next_rows (l.depth - l.counter) l.generator ≡ next_rows l.depth l.initial.generator
