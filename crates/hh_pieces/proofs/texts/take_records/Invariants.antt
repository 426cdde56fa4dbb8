use Rattle.std.proofs.Common.{◌≡◌, ◌≤◌, ◌-◌, true}
use Rattle.std.specs.Io.KnownBytes.{prepend_known}
use Rattle.hh_stream.specs.Weights.{max_total}
use Rattle.hh_stream.specs.Taking.{Takes}
use Rattle.hh_records.specs.Layouts.{config_of}
use Rattle.hh_pieces.specs.LongRecords.{LeavesOutside}
use Rattle.hh_pieces.specs.Texts.{LeavesBytes}
use Rattle.hh_pieces.specs.Windows.{held_in}
use Rattle.hh_pieces.proofs.texts.take_records.Given as goal

abbrev pub invariant-loop-taken : goal.invariant-loop-taken
invariant-loop-taken g l =
    (g.T.TakeItems.weight_taken l.taker ≤ max_total)
    × Takes g.T.TakeItems.with_item g.T.TakeItems.weight_taken l.fn.taker l.taker
    (λ xs. LeavesBytes l.fn.layout l.fn.columns l.fn.before (g.T.TakeItems.weight_taken l.fn.taker)
    (prepend_known (held_in l.fn.window) (g.R.Read.remaining l.fn.reader)) xs l.taken.number
    (prepend_known (held_in l.window) (g.R.Read.remaining l.reader)))
    × (l.taken.outside ≡ true → LeavesOutside (config_of l.fn.layout)
    (prepend_known (held_in l.fn.window) (g.R.Read.remaining l.fn.reader))
    (prepend_known (held_in l.window) (g.R.Read.remaining l.reader)))

abbrev pub decreases-loop-taken : goal.decreases-loop-taken
decreases-loop-taken g l = 18446744073709551615 - l.taken.number
