use Rattle.std.proofs.Common.{◌≡◌, ◌<◌, ◌≤◌, ◌-◌, ◌+◌, true, List}
use Rattle.std.specs.Prelude.{All, fold}
use Rattle.csv.specs.Reading.{Ready, is_flexible, reader_config, reader_state, reader_trim, source_of}
use Rattle.csv.specs.declared.reader.Trim.TheVariants as trim
use Rattle.hh_stream.specs.Weights.{Entry, total_of, max_total}
use Rattle.hh_records.specs.Layouts.{between, parts_at}
use Rattle.hh_records.proofs.ReadFacts.{ReadSoFar}
use Rattle.hh_records.proofs.records.take_rows.Given as goal

abbrev pub invariant-loop-number : goal.invariant-loop-number
invariant-loop-number g l = (reader_trim l.rows ≡ trim.None) × Ready l.rows × (is_flexible l.rows ≡ true)
    × (reader_config l.rows ≡ reader_config l.fn.rows)
    × (g.T.TakeItems.weight_taken l.taker ≤ max_total)
    × ((xs : List Entry)
    × (g.T.TakeItems.weight_taken l.taker ≡ g.T.TakeItems.weight_taken l.initial.taker + total_of xs)
    × All (λ (e : Entry). 0 < e.1) xs × (l.taker ≡ fold g.T.TakeItems.with_item l.initial.taker xs)
    × ReadSoFar (reader_config l.fn.rows) (parts_at l.fn.layout l.fn.columns) l.fn.layout
    (reader_state l.fn.rows) l.fn.before (g.T.TakeItems.weight_taken l.initial.taker)
    (between (reader_state l.fn.rows) (source_of g.R.Read.remaining l.fn.rows))
    (source_of g.R.Read.remaining l.rows) (reader_state l.rows) xs l.number)

abbrev pub decreases-loop-number : goal.decreases-loop-number
decreases-loop-number g l = 18446744073709551615 - l.number
