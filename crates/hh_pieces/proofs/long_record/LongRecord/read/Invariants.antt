use Rattle.std.proofs.Common.{List, ℕ}
use Rattle.std.specs.Io.KnownBytes.{prepend_known}
use Rattle.csv.specs.declared.parser.State.TheVariants as st
use Rattle.csv.proofs.ReadFacts.{Tracks}
use Rattle.hh_records.specs.Streams.{Fields}
use Rattle.hh_pieces.specs.LongRecords.{Holds, config_for, state_of}
use Rattle.hh_pieces.specs.Windows.{held_in}
use Rattle.hh_pieces.proofs.LongFacts.{StandsAt}
use Rattle.hh_pieces.proofs.long_record.LongRecord.read.Given as goal

abbrev pub invariant-loop : goal.invariant-loop
invariant-loop g l =
    (fs : Fields) × (f : List ℕ) × Holds l.limits l.self fs f
    × Tracks (config_for l.syntax) st.StartRecord
    (prepend_known (held_in l.initial.window) (g.R.Read.remaining l.initial.reader))
    (state_of l.self.spot) fs f
    (prepend_known (held_in l.window) (g.R.Read.remaining l.reader))
    × StandsAt (config_for l.syntax)
    (prepend_known (held_in l.initial.window) (g.R.Read.remaining l.initial.reader))
    (state_of l.self.spot)
    (prepend_known (held_in l.window) (g.R.Read.remaining l.reader))
