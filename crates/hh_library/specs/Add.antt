-- Items, added to a saved summary or table.
use Rattle.std.specs.Prelude.{◌≡◌, ◌==◌, ◌+◌, not, nat_le, ℕ, List, [], ◌∷◌, ◌++◌, length, fold, map, Option, Some, None, Result, Ok, if◌then◌else◌}
use Rattle.std.specs.Borrow.{Bor}
use Rattle.hh_stream.specs.Weights.{Entry, max_key_len, max_total}
use Rattle.hh_summaries.specs.Counters.{SummaryView, sketch_of, sketch_with}
use Rattle.hh_countmin.specs.Family.{Coefficients, drawn_family}
use Rattle.hh_countmin.specs.Table.{TableView, grid_with, table_of}
use Rattle.hh_faults.specs.declared.records.BadRecordCause.TheVariants as cause
use Rattle.hh_saved.specs.Spelling.{Spells}
use Rattle.hh_saved.specs.declared.format.Version.TheVariants as version
use Rattle.hh_saved.specs.declared.saved.Saved.{Saved}
use Rattle.hh_saved.specs.declared.saved.Saved.TheVariants.{Counters, Cells}
use Rattle.hh_commands.specs.Ask.{or_else, unless}
use Rattle.hh_commands.specs.Files.{HoldsSummary, HoldsTable, file_of, ◌>>=◌}
use Rattle.hh_commands.specs.Summarise.{bad_k}
use Rattle.hh_commands.specs.Table.{bad_table}
use Rattle.hh_faults.specs.declared.error.ToolError.{ToolError}
use Rattle.hh_faults.specs.declared.error.ToolError.TheVariants as tool

-- items whose keys are lent
abbrev pub entries : List (Bor (List ℕ) × ℕ) → List Entry
entries items = map (λ item. (item.0.now, item.1)) items

-- what is wrong with item n, after a total of t: the first of its key's length, its weight, and the total
abbrev pub item_fault : ℕ → ℕ → Entry → Option ToolError
item_fault n t e =
    if length e.0 == 0 then Some (tool.BadRecord n cause.EmptyKey)
    else if not (nat_le (length e.0) max_key_len) then Some (tool.BadRecord n cause.KeyTooLong)
    else if e.1 == 0 then Some (tool.BadRecord n cause.ZeroWeight)
    else if nat_le (t + e.1) max_total then None
    else Some (tool.BadRecord n cause.TotalTooLarge)

-- the first fault of items that have the numbers from n on, after a total of t
unfoldable pub bad_item : ℕ → ℕ → List Entry → Option ToolError
bad_item n t [] = None
bad_item n t (e ∷ es) = or_else (item_fault n t e) (bad_item (n + 1) (t + e.1) es)

-- a summary with items added, one after the other
abbrev pub sketch_and : SummaryView → List Entry → SummaryView
sketch_and s xs = fold sketch_with s xs

-- a table with items added
abbrev pub grid_and : TableView → List Entry → TableView
grid_and t xs = fold grid_with t xs

-- what the items of a saved value weigh
abbrev pub total_in : Saved → ℕ
total_in (Counters s) = s.total
total_in (Cells t) = t.total

-- a saved value with items added
abbrev pub value_and : Saved → List Entry → Saved
value_and (Counters s) xs = Counters (sketch_and s xs)
value_and (Cells t) xs = Cells (grid_and t xs)

-- the same, or the first fault of the items
abbrev pub added_to : Saved → List Entry → Result Saved ToolError
added_to v xs = unless (bad_item 1 (total_in v) xs) (value_and v xs)

-- the value of a file with items added, or the first refusal: of the file, and of the items
abbrev pub added : List ℕ → List Entry → Result Saved ToolError
added file xs = do
  v ← file_of 1 file
  added_to v xs

-- the bytes are the spelling in version 2 of the value of a file with items added
abbrev pub IsAdded : List ℕ → List Entry → List ℕ → Type 0
IsAdded file xs bytes = (v : Saved) × (added file xs ≡ Ok v) × Spells version.Two bytes v

-- where the file has the summary of a stream, the bytes have that of the stream followed by the items
abbrev pub GoesOn : List ℕ → List Entry → List ℕ → Type 0
GoesOn file xs bytes =
    (k : ℕ) (stream : List Entry) → HoldsSummary file (sketch_of k stream)
    → Spells version.Two bytes (Counters (sketch_of k (stream ++ xs)))

-- and where it has the table of a stream, they have that of the stream followed by the items
abbrev pub TableGoesOn : List ℕ → List Entry → List ℕ → Type 0
TableGoesOn file xs bytes =
    (family : Coefficients) (width : ℕ) (stream : List Entry) → HoldsTable file (table_of family width stream)
    → Spells version.Two bytes (Cells (table_of family width (stream ++ xs)))

-- the bytes are the value of the file with the items added, and go on from a stream's
pub record AddsItems (file : List ℕ) (xs : List Entry) (bytes : List ℕ) : Type 0 where
  pub added : IsAdded file xs bytes
  pub stream : GoesOn file xs bytes
  pub table : TableGoesOn file xs bytes

-- the summary of no items, or the fault of its k
abbrev pub empty_of : ℕ → Result Saved ToolError
empty_of k = unless (bad_k k) (Counters (sketch_of k []))

-- the table of no items with the family of a seed, or the fault of its depth or width
abbrev pub empty_table_of : ℕ → ℕ → ℕ → Result Saved ToolError
empty_table_of width depth seed = unless (bad_table depth width) (Cells (table_of (drawn_family seed depth) width []))
