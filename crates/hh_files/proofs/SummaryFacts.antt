-- Summaries of records.
use Rattle.std.proofs.Common.{◌≡◌, ◌+◌, ◌*◌, ◌≤◌, ℕ, List, refl, ap, arith}
use Rattle.hh_stream.specs.Weights.{Entry}
use Rattle.hh_summaries.specs.Counters.{IsHonest, SummaryView, sketch_of}
use Rattle.hh_counters.specs.Laws.{MisraGriesIsHonest}
use Rattle.hh_saved.specs.declared.saved.Saved.TheVariants.{Counters}
use Rattle.hh_tally.specs.Tallies.{AreBounds, TallyView, pruned}
use Rattle.hh_tally.specs.declared.room.Room.{Room}
use Rattle.hh_records.specs.Streams.{Known}
use Rattle.hh_commands.specs.Records.{SavesStream}
use Rattle.hh_files.specs.SummaryFiles.{SavesSummary, SummarisesRecords}
use Rattle.hh_files.specs.FilePasses.{TalliesRecords}

-- a tally of records with room enough makes a summary of them
pub tally_summarises : (k : ℕ) (room : Room) (known : Known) (t : TallyView) (s : SummaryView) → 2 * (k + 1) ≤ room.few
    → TalliesRecords room known t → s ≡ pruned k t
    → (2 * (k + 1) ≤ t.room.few → (xs : List Entry) → AreBounds t xs → IsHonest s.counters s.total xs s.k)
    → SummarisesRecords k known s
tally_summarises k room known t s enough (xs, read, of, bounds) is honest = (
  xs,
  read,
  ap (λ (s : SummaryView). s.k) is,
  honest (omega (arith, enough, ap (λ (r : Room). r.few) of)) xs bounds,
)

-- that of Misra and Gries, saved, is a saved summary of the records
pub saved_summarises : MisraGriesIsHonest → (k : ℕ) (known : Known) (bytes : List ℕ)
    → SavesStream (λ xs. Counters (sketch_of k xs)) known bytes → SavesSummary k known bytes
saved_summarises honest k known bytes (xs, read, spells) = (sketch_of k xs, (xs, read, refl, honest xs k), spells)
