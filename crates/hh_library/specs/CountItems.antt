-- Items in memory, counted for the keys of a saved summary.
use Rattle.std.specs.Prelude.{◌==◌, ◌+◌, ℕ, List, Option, Some, None, Result, Ok, Err, if◌then◌else◌}
use Rattle.hh_stream.specs.Weights.{Entry, total_of}
use Rattle.hh_counters.specs.Condensed.{condensed}
use Rattle.hh_summaries.specs.Counters.{SummaryView}
use Rattle.hh_summaries.specs.Report.{is_threshold}
use Rattle.hh_rows.specs.Rows.{condensed_text, rows_of}
use Rattle.hh_saved.specs.declared.saved.Saved.{Saved}
use Rattle.hh_saved.specs.declared.saved.Saved.TheVariants.{Counters, Cells}
use Rattle.hh_library.specs.Add.{bad_item}
use Rattle.hh_commands.specs.Ask.{or_else, unless}
use Rattle.hh_commands.specs.Confirm.{confirmed_above}
use Rattle.hh_commands.specs.Files.{file_of, ◌>>=◌}
use Rattle.hh_faults.specs.declared.error.ToolError.{ToolError}
use Rattle.hh_faults.specs.declared.error.ToolError.TheVariants as tool

-- the summary that a value is
abbrev pub counters_of : Saved → Result SummaryView ToolError
counters_of (Counters s) = Ok s
counters_of (Cells t) = Err tool.NotCounters

-- the condensed rows of items by a summary, or the first refusal of the items
abbrev pub condensed_in : SummaryView → List Entry → Result (List ℕ) ToolError
condensed_in s xs = unless (bad_item 1 0 xs) (condensed_text (condensed s.counters xs))

-- the same by the summary of a file, or the first refusal: of the file, of its kind, and of the items
abbrev pub condensed_items : List ℕ → List Entry → Result (List ℕ) ToolError
condensed_items file xs = do
  v ← file_of 1 file
  s ← counters_of v
  condensed_in s xs

-- two numbers where they are a threshold for k counters; where none are given, the least threshold, 1/(k + 1)
abbrev pub share_or_least : Option (ℕ × ℕ) → ℕ → Option (ℕ × ℕ)
share_or_least None k = Some (1, k + 1)
share_or_least (Some t) k = if is_threshold k t.0 t.1 then Some t else None

-- the refusal of items whose total is not the summary's
abbrev pub bad_total : ℕ → ℕ → Option ToolError
bad_total m n = if m == n then None else Some tool.TotalDiffers

-- the rows of a summary's keys that are above a share of items, or the first refusal: of the share, of the items, and
-- of their total
abbrev pub confirmed_in : SummaryView → Option (ℕ × ℕ) → List Entry → Result (List ℕ) ToolError
confirmed_in s None xs = Err tool.BadThreshold
confirmed_in s (Some t) xs =
    unless (or_else (bad_item 1 0 xs) (bad_total s.total (total_of xs))) (rows_of (confirmed_above t.0 t.1 s xs))

-- the same by the summary of a file, or the first refusal: of the file, of its kind, and then those
abbrev pub confirmed_items : Option (ℕ × ℕ) → List ℕ → List Entry → Result (List ℕ) ToolError
confirmed_items share file xs = do
  v ← file_of 1 file
  s ← counters_of v
  confirmed_in s (share_or_least share s.k) xs
