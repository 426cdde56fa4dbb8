use Rattle.std.proofs.Common.{◌≡◌, ◌-◌}
use Rattle.hh_saved.specs.Reading.{with_front, rows_at}
use Rattle.hh_saved.proofs.reading.take_rows.Given as goal

abbrev pub invariant-loop : goal.invariant-loop
invariant-loop l =
    with_front l.cells.items (rows_at (l.depth - l.counter) l.width l.total l.rest)
    ≡ rows_at l.depth l.width l.total l.bytes
