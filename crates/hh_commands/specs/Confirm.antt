-- A summary, confirmed by the records that it is of.
use Rattle.std.specs.Prelude.{◌≡◌, ◌≢◌, ◌+◌, ℕ, Bool, IsTrue, List, filter, Option, Some, None, Ok, ⊤}
use Rattle.hh_stream.specs.Weights.{Entry, total_of}
use Rattle.hh_summaries.specs.Counters.{SummaryView}
use Rattle.hh_summaries.specs.Report.{has_counter, heavy}
use Rattle.hh_rows.specs.Printed.{printed_rows}
use Rattle.hh_rows.specs.Rows.{rows_of}
use Rattle.hh_records.specs.Streams.{Known, ReadsAs}
use Rattle.hh_rows.specs.Thresholds.{threshold_of}
use Rattle.hh_rows.specs.declared.printed.RowOptions.{RowOptions}
use Rattle.hh_rows.specs.declared.threshold.Share.{Share}
use Rattle.hh_commands.specs.Bounds.{IsOutside, RefusesOutside}
use Rattle.hh_commands.specs.Files.{HoldsSummary, RefusedFrom}
use Rattle.hh_commands.specs.declared.compared.Bounds.TheVariants as bounds
use Rattle.hh_commands.specs.declared.compared.Comparison.{Comparison}
use Rattle.hh_commands.specs.declared.compared.Outside.{Outside}
use Rattle.hh_records.specs.Refusals.{RecordsRefused}
use Rattle.hh_faults.specs.declared.error.ToolError.{ToolError}
use Rattle.hh_faults.specs.declared.error.ToolError.TheVariants as tool

-- the keys of xs above p/q of its total that have a counter in the summary
abbrev pub confirmed_above : ℕ → ℕ → SummaryView → List Entry → List Entry
confirmed_above p q s xs = filter (has_counter s.counters) (heavy xs p q)

-- those above the least share for which the summary has counters enough
abbrev pub confirmed_rows : SummaryView → List Entry → List Entry
confirmed_rows s xs = confirmed_above 1 (s.k + 1) s xs

-- the file holds a summary, and these are the rows of its keys that are heavy in a stream of its
-- total, that which the records are
abbrev pub ConfirmsRows : List ℕ → Known → List ℕ → Type 0
ConfirmsRows file known rows =
    (s : SummaryView) × (xs : List Entry) × HoldsSummary file s × ReadsAs known (Ok xs)
    × (s.total ≡ total_of xs) × (rows ≡ rows_of (confirmed_rows s xs))

-- what a refusal to count a summary's keys in records tells: of the totals, or of the records
abbrev pub CountRefused : SummaryView → Known → ToolError → Type 0
CountRefused s known tool.TotalDiffers = (xs : List Entry) × ReadsAs known (Ok xs) × (s.total ≢ total_of xs)
CountRefused s known e = RecordsRefused known e

-- what a refusal to confirm tells: of the file, of its kind, of the records, and of the totals
abbrev pub ConfirmRefused : List ℕ → Known → ToolError → Type 0
ConfirmRefused file known e = RefusedFrom file (λ s. CountRefused s known) e

-- rows are those of a summary's keys above a share, which has to be a threshold for its k, as the options
-- of rows want them, with shares of the stream's total
abbrev pub ConfirmsPrinted : RowOptions → Share → List ℕ → Known → List ℕ → Type 0
ConfirmsPrinted r share file known rows =
    (s : SummaryView) × (p : ℕ) × (q : ℕ) × (xs : List Entry) × HoldsSummary file s
    × (threshold_of s.k share ≡ Some (p, q)) × ReadsAs known (Ok xs)
    × (s.total ≡ total_of xs) × (rows ≡ printed_rows (total_of xs) r (confirmed_above p q s xs))

-- what a refusal to print a summary's keys tells, which were counted in these items: their total is another, and
-- both are left; or a key is outside its bounds, and it is left
abbrev pub TextRefused : Bool → SummaryView → List Entry → Comparison → ToolError → Type 0
TextRefused refuses s xs compared tool.TotalDiffers =
    (s.total ≢ total_of xs) × (compared.totals ≡ Some (record { summary = s.total; records = total_of xs }))
TextRefused refuses s xs compared tool.WeightOutside =
    IsTrue refuses × (s.total ≡ total_of xs) × (o : Outside) × (compared.outside ≡ Some o) × IsOutside bounds.Both s xs o
TextRefused refuses s xs compared tool.Memory = ⊤
TextRefused refuses s xs compared _ = ⊥

-- what a refusal to count a summary's keys and to compare them tells: where a key outside its bounds refuses, that
-- there is one in records of the summary's total; or of the totals, or of the records
abbrev pub CompareRefused : Bool → SummaryView → Known → ToolError → Type 0
CompareRefused refuses s known tool.WeightOutside =
    IsTrue refuses × (xs : List Entry) × (o : Outside) × ReadsAs known (Ok xs) × (s.total ≡ total_of xs)
    × IsOutside bounds.Both s xs o
CompareRefused refuses s known e = CountRefused s known e

-- the same where a share may be no threshold, which is tested first
abbrev pub CompareAboveRefused : Bool → Option (ℕ × ℕ) → SummaryView → Known → ToolError → Type 0
CompareAboveRefused refuses None s known e = e ≡ tool.BadThreshold
CompareAboveRefused refuses (Some t) s known e = CompareRefused refuses s known e

-- what a refusal to confirm above a share tells: of the file, of its kind, of the share, of the records, of the
-- totals, and of a key outside its bounds, where that refuses
abbrev pub ConfirmRowsRefused : Bool → Share → List ℕ → Known → ToolError → Type 0
ConfirmRowsRefused refuses share file known e =
    RefusedFrom file (λ s. CompareAboveRefused refuses (threshold_of s.k share) s known) e

-- what a refusal tells of what was compared: both totals, where they differ, and else a key outside its bounds
abbrev pub TellsCompared : List ℕ → Known → Comparison → ToolError → Type 0
TellsCompared file known compared tool.TotalDiffers =
    (s : SummaryView) × (xs : List Entry) × HoldsSummary file s × ReadsAs known (Ok xs)
    × (compared.totals ≡ Some (record { summary = s.total; records = total_of xs }))
TellsCompared file known compared tool.WeightOutside = RefusesOutside bounds.Both file known compared.outside
TellsCompared file known compared e = ⊤
