-- A summary of files.
use Rattle.std.specs.Prelude.{◌≡◌, not, ℕ, List, Option, Some, None, Ok, if◌then◌else◌}
use Rattle.hh_stream.specs.Ranges.{in_range}
use Rattle.hh_stream.specs.Weights.{Entry}
use Rattle.hh_summaries.specs.Counters.{IsHonest, SummaryView, max_k}
use Rattle.hh_workers.specs.Workers.{max_workers}
use Rattle.hh_saved.specs.Spelling.{Spells}
use Rattle.hh_saved.specs.declared.format.Version.TheVariants as version
use Rattle.hh_saved.specs.declared.saved.Saved.TheVariants.{Counters}
use Rattle.hh_records.specs.Streams.{Known, ReadsAs}
use Rattle.hh_faults.specs.declared.error.ToolError.{ToolError}
use Rattle.hh_faults.specs.declared.error.ToolError.TheVariants as tool

-- the tests of a summary's k, and then that of the workers who read files
abbrev pub bad_summary_of_files : ℕ → ℕ → Option ToolError
bad_summary_of_files k workers =
    if not (in_range k max_k) then Some tool.BadK
    else if not (in_range workers max_workers) then Some tool.BadWorkers
    else None

-- the records read as items, and the summary with k counters promises of them what that of Misra and Gries does
abbrev pub SummarisesRecords : ℕ → Known → SummaryView → Type 0
SummarisesRecords k known s =
    (xs : List Entry) × ReadsAs known (Ok xs) × (s.k ≡ k) × IsHonest s.counters s.total xs s.k

-- the bytes are the spelling in version 2 of such a summary
abbrev pub SavesSummary : ℕ → Known → List ℕ → Type 0
SavesSummary k known bytes =
    (s : SummaryView) × SummarisesRecords k known s × Spells version.Two bytes (Counters s)
