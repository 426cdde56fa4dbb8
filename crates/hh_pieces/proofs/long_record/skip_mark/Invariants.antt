use Rattle.std.proofs.Common.{◌-◌, length}
use Rattle.std.specs.Io.KnownBytes.{Keeps, prepend_known}
use Rattle.hh_pieces.specs.Windows.{held_in}
use Rattle.hh_pieces.proofs.long_record.skip_mark.Given as goal

abbrev pub invariant-loop-window : goal.invariant-loop-window
invariant-loop-window g l =
    Keeps (prepend_known (held_in l.fn.window) (g.R.Read.remaining l.fn.reader))
    (prepend_known (held_in l.window) (g.R.Read.remaining l.reader))

abbrev pub decreases-loop-window : goal.decreases-loop-window
decreases-loop-window g l = 3 - length (held_in l.window)
