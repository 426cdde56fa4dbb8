-- The records of a text whose keys and weights stand in columns of one's own.
use Rattle.std.specs.Prelude.{◌≡◌, ◌⊎◌, not, ℕ, true, List, [], ◌∷◌, Option, Some, None, Ok, if◌then◌else◌}
use Rattle.hh_stream.specs.Ranges.{in_range}
use Rattle.hh_stream.specs.Weights.{Entry, total_of}
use Rattle.hh_summaries.specs.Counters.{SummaryView, max_k}
use Rattle.hh_summaries.specs.Report.{heavy}
use Rattle.hh_tally.specs.Tallies.{AreBounds, TallyView}
use Rattle.hh_top.specs.Top.{GreatestRefused, top}
use Rattle.hh_records.specs.Layouts.{names_columns, stream_with}
use Rattle.hh_records.specs.Streams.{Known, ReadsAs}
use Rattle.hh_records.specs.declared.layout.Layout.{Layout}
use Rattle.hh_rows.specs.Outputs.{plain_output}
use Rattle.hh_rows.specs.Printed.{all_rows, printed_rows}
use Rattle.hh_commands.specs.Bounds.{AreWithin}
use Rattle.hh_commands.specs.declared.compared.Bounds.TheVariants as bounds
use Rattle.hh_commands.specs.Condense.{CondensePartRefused, CondensesRows}
use Rattle.hh_commands.specs.Confirm.{CompareAboveRefused, confirmed_above}
use Rattle.hh_commands.specs.Files.{HoldsSummary, RefusedFrom, Refuses}
use Rattle.hh_records.specs.Refusals.{RecordsRefused}
use Rattle.hh_saved.specs.declared.saved.Saved.{Saved}
use Rattle.hh_library.specs.Add.{added_to}
use Rattle.hh_library.specs.CountItems.{share_or_least}
use Rattle.hh_faults.specs.declared.error.ToolError.{ToolError}
use Rattle.hh_faults.specs.declared.error.ToolError.TheVariants as tool

-- what is known of a text's records in a layout
abbrev pub text_laid : Layout → List ℕ → Known
text_laid layout text = record {
  names_columns = names_columns layout;
  reading = Some (stream_with layout (text ∷ []));
}

-- the value becomes that with the items added that the records are
abbrev pub AddsRecords : Saved → Known → Saved → Type 0
AddsRecords v known new = (xs : List Entry) × ReadsAs known (Ok xs) × (added_to v xs ≡ Ok new)

-- what a refusal to add records tells: of the records, or of their items
abbrev pub AddRecordsRefused : Saved → Known → ToolError → Type 0
AddRecordsRefused v known e =
    RecordsRefused known e ⊎ ((xs : List Entry) × ReadsAs known (Ok xs) × Refuses (added_to v xs) e)

-- the file holds a summary, and these are the rows of its keys above a share in a stream of its total, that which the
-- records are, where no key is outside its bounds
abbrev pub ConfirmsBounded : Option (ℕ × ℕ) → ℕ → List ℕ → Known → List ℕ → Type 0
ConfirmsBounded share d file known rows =
    (s : SummaryView) × (t : ℕ × ℕ) × (xs : List Entry) × HoldsSummary file s
    × (share_or_least share s.k ≡ Some t) × ReadsAs known (Ok xs) × (s.total ≡ total_of xs)
    × AreWithin bounds.Both s xs
    × (rows ≡ printed_rows (total_of xs) (all_rows (plain_output d)) (confirmed_above t.0 t.1 s xs))

-- what a refusal to confirm so tells: of the file, of its kind, of the share, of the records, of the totals, and of a
-- key outside its bounds
abbrev pub ConfirmBoundedRefused : Option (ℕ × ℕ) → List ℕ → Known → ToolError → Type 0
ConfirmBoundedRefused share file known e =
    RefusedFrom file (λ s. CompareAboveRefused true (share_or_least share s.k) s known) e

-- the file holds a summary, and these are the condensed rows of the stream that the records are, where no key is above
-- its bound
abbrev pub CondensesBounded : ℕ → List ℕ → Known → List ℕ → Type 0
CondensesBounded d file known rows =
    CondensesRows d file known rows
    × ((s : SummaryView) × (xs : List Entry) × HoldsSummary file s × ReadsAs known (Ok xs) × AreWithin bounds.High s xs)

-- what a refusal to condense so tells
abbrev pub CondenseBoundedRefused : List ℕ → Known → ToolError → Type 0
CondenseBoundedRefused file known e = CondensePartRefused true file known e

-- the tests of a report's k and share
abbrev pub bad_share : Option (ℕ × ℕ) → Option ToolError
bad_share None = Some tool.BadThreshold
bad_share (Some t) = None

abbrev pub bad_report : ℕ → Option (ℕ × ℕ) → Option ToolError
bad_report k share = if not (in_range k max_k) then Some tool.BadK else bad_share (share_or_least share k)

-- the rows are the exact report of the stream that the records are: all keys above the share
abbrev pub ReportsRows : ℕ → Option (ℕ × ℕ) → ℕ → Known → List ℕ → Type 0
ReportsRows k share d known rows =
    (t : ℕ × ℕ) × (xs : List Entry) × (share_or_least share k ≡ Some t) × ReadsAs known (Ok xs)
    × (rows ≡ printed_rows (total_of xs) (all_rows (plain_output d)) (heavy xs t.0 t.1))

-- the records read as items, whose weights the tally bounds
abbrev pub TalliesText : Known → TallyView → Type 0
TalliesText known t = (xs : List Entry) × ReadsAs known (Ok xs) × AreBounds t xs

-- the rows are the n greatest keys of the stream that the records are
abbrev pub GivesTop : ℕ → ℕ → Known → List ℕ → Type 0
GivesTop n d known rows =
    (xs : List Entry) × ReadsAs known (Ok xs) × (rows ≡ printed_rows (total_of xs) (all_rows (plain_output d)) (top n xs))

-- what a refusal of the n greatest keys tells: of the records, or how many are certain where k keys are counted
abbrev pub TopIsRefused : ℕ → ℕ → Known → ToolError → Type 0
TopIsRefused n k known e =
    RecordsRefused known e ⊎ ((xs : List Entry) × ReadsAs known (Ok xs) × GreatestRefused xs n k e)
