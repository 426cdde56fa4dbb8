-- What saved files merge to.
use Rattle.std.specs.Prelude.{◌==◌, ◌+◌, not, nat_le, ℕ, List, [], ◌∷◌, Result, Ok, Err, if◌then◌else◌}
use Rattle.hh_stream.specs.Weights.{max_total}
use Rattle.hh_summaries.specs.Counters.{SummaryView, merge_of as merged_counters}
use Rattle.hh_countmin.specs.Family.{same_family}
use Rattle.hh_countmin.specs.Table.{TableView, grid_sum as merged_cells}
use Rattle.hh_saved.specs.declared.saved.Saved.{Saved}
use Rattle.hh_saved.specs.declared.saved.Saved.TheVariants.{Counters, Cells}
use Rattle.hh_commands.specs.Files.{file_of, ◌>>=◌}
use Rattle.hh_faults.specs.declared.error.MergeCause.{MergeCause}
use Rattle.hh_faults.specs.declared.error.MergeCause.TheVariants as cause
use Rattle.hh_faults.specs.declared.error.ToolError.{ToolError}
use Rattle.hh_faults.specs.declared.error.ToolError.TheVariants as tool

-- a value of this total, which may be too large
abbrev pub of_total : ℕ → Saved → Result Saved MergeCause
of_total total v = if nat_le total max_total then Ok v else Err cause.TotalTooLarge

abbrev pub counters_of_both : SummaryView → SummaryView → Result Saved MergeCause
counters_of_both s t =
    if s.k == t.k then of_total (s.total + t.total) (Counters (merged_counters s t))
    else Err cause.DifferentK

abbrev pub cells_of_both : TableView → TableView → Result Saved MergeCause
cells_of_both s t =
    if not (same_family s.family t.family) then Err cause.DifferentFamily
    else if s.width == t.width then of_total (s.total + t.total) (Cells (merged_cells s t))
    else Err cause.DifferentWidth

abbrev pub at_file : ℕ → Result Saved MergeCause → Result Saved ToolError
at_file n (Ok v) = Ok v
at_file n (Err c) = Err (tool.CannotMerge n c)

-- a value with that of file n, or why they are not merged
abbrev pub merge_saved : ℕ → Saved → Saved → Result Saved ToolError
merge_saved n (Counters s) (Counters t) = at_file n (counters_of_both s t)
merge_saved n (Cells s) (Cells t) = at_file n (cells_of_both s t)
merge_saved n (Counters s) (Cells t) = Err (tool.MixedKinds n)
merge_saved n (Cells s) (Counters t) = Err (tool.MixedKinds n)

-- a value with those of the files from number n on, one after the other
unfoldable pub merged_from : ℕ → Saved → List (List ℕ) → Result Saved ToolError
merged_from n v [] = Ok v
merged_from n v (file ∷ files) = do
  next ← file_of n file
  both ← merge_saved n v next
  merged_from (n + 1) both files

-- the first file with each next one, or the first refusal; there is a first file
abbrev pub merged_files : List (List ℕ) → Result Saved ToolError
merged_files [] = Err tool.Memory
merged_files (file ∷ files) = do
  first ← file_of 1 file
  merged_from 2 first files
