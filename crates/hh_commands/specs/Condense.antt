-- Records, condensed by a saved summary.
use Rattle.std.specs.Prelude.{◌≡◌, ℕ, Bool, IsTrue, List, Some, Ok, ⊤}
use Rattle.hh_stream.specs.Weights.{Entry}
use Rattle.hh_counters.specs.Condensed.{condensed}
use Rattle.hh_summaries.specs.Counters.{SummaryView}
use Rattle.hh_rows.specs.Outputs.{plain_output}
use Rattle.hh_rows.specs.Rows.{condensed_in}
use Rattle.hh_rows.specs.declared.output.Output.{Output}
use Rattle.hh_records.specs.Streams.{Known, ReadsAs}
use Rattle.hh_commands.specs.Files.{HoldsSummary, RefusedFrom}
use Rattle.hh_records.specs.Refusals.{RecordsRefused}
use Rattle.hh_faults.specs.declared.error.ToolError.{ToolError}
use Rattle.hh_faults.specs.declared.error.ToolError.TheVariants as tool
use Rattle.hh_commands.specs.Bounds.{IsOutside, RefusesOutside}
use Rattle.hh_commands.specs.declared.compared.Bounds.TheVariants as bounds
use Rattle.hh_commands.specs.declared.compared.Comparison.{Comparison}
use Rattle.hh_commands.specs.declared.compared.Outside.{Outside}

-- the file holds a summary, and these are the condensed rows of the stream that the records are
abbrev pub CondensesIn : Output → List ℕ → Known → List ℕ → Type 0
CondensesIn output file known rows =
    (s : SummaryView) × (xs : List Entry) × HoldsSummary file s × ReadsAs known (Ok xs)
    × (rows ≡ condensed_in output (condensed s.counters xs))

-- so it does, with the rows as CSV, in units of 10^-d
abbrev pub CondensesRows : ℕ → List ℕ → Known → List ℕ → Type 0
CondensesRows d file known rows = CondensesIn (plain_output d) file known rows

-- what a refusal to condense tells: of the file, of its kind, and of the records
abbrev pub CondenseRefused : List ℕ → Known → ToolError → Type 0
CondenseRefused file known e = RefusedFrom file (λ s. RecordsRefused known) e

-- what a refusal to condense counted items tells: that a key is above its bound, where that refuses, and it is left
abbrev pub AboveRefused : Bool → SummaryView → List Entry → Comparison → ToolError → Type 0
AboveRefused refuses s xs compared tool.WeightOutside =
    IsTrue refuses × (o : Outside) × (compared.outside ≡ Some o) × IsOutside bounds.High s xs o
AboveRefused refuses s xs compared tool.Memory = ⊤
AboveRefused refuses s xs compared _ = ⊥

-- what a refusal of records tells whose keys are compared with their higher bounds: that one is above, where that
-- refuses, or of the records
abbrev pub PartRefused : Bool → SummaryView → Known → ToolError → Type 0
PartRefused refuses s known tool.WeightOutside =
    IsTrue refuses × (xs : List Entry) × (o : Outside) × ReadsAs known (Ok xs) × IsOutside bounds.High s xs o
PartRefused refuses s known e = RecordsRefused known e

-- what a refusal to condense a part tells: of the file, of its kind, of the records, and of a key above its bound
abbrev pub CondensePartRefused : Bool → List ℕ → Known → ToolError → Type 0
CondensePartRefused refuses file known e = RefusedFrom file (λ s. PartRefused refuses s known) e

-- such a refusal leaves the key that is above its bound
abbrev pub TellsAbove : List ℕ → Known → Comparison → ToolError → Type 0
TellsAbove file known compared tool.WeightOutside = RefusesOutside bounds.High file known compared.outside
TellsAbove file known compared e = ⊤
