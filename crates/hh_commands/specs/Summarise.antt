-- A summary of records.
use Rattle.std.specs.Prelude.{◌≡◌, not, ℕ, List, codes, Option, Some, None, Ok, if◌then◌else◌}
use Rattle.hh_stream.specs.Ranges.{in_range}
use Rattle.hh_stream.specs.Weights.{Entry}
use Rattle.hh_summaries.specs.Counters.{SummaryView, max_k, sketch_of}
use Rattle.hh_records.specs.Streams.{Known, ReadsAs}
use Rattle.hh_commands.specs.declared.commands.summarise.Method.{Method}
use Rattle.hh_commands.specs.declared.commands.summarise.Method.TheVariants as method
use Rattle.hh_faults.specs.declared.error.ToolError.{ToolError}
use Rattle.hh_faults.specs.declared.error.ToolError.TheVariants as tool

-- the word that names a method
abbrev pub word_of : Method → List ℕ
word_of method.MisraGries = codes "mg"
word_of method.SpaceSaving = codes "ss"

-- the test of a summary's k
abbrev pub bad_k : ℕ → Option ToolError
bad_k k = if not (in_range k max_k) then Some tool.BadK else None

-- the summary that Misra and Gries make of the stream that the records are
abbrev pub IsSummaryOf : ℕ → Known → SummaryView → Type 0
IsSummaryOf k known summary = (xs : List Entry) × ReadsAs known (Ok xs) × (summary ≡ sketch_of k xs)
