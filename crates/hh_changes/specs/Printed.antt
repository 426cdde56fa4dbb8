-- The rows of changes.
use Rattle.std.specs.Prelude.{◌+◌, ◌-◌, ◌*◌, ◌%◌, ◌==◌, nat_lt, ℕ, Bool, List, [], ◌∷◌, ◌++◌, codes, Result, Ok, Err, if◌then◌else◌}
use Rattle.hh_stream.specs.Weights.{Entry}
use Rattle.hh_summaries.specs.Counters.{SummaryView}
use Rattle.hh_records.specs.Decimals.{pointed}
use Rattle.hh_rows.specs.Json.{minus}
use Rattle.hh_rows.specs.Outputs.{rows_in}
use Rattle.hh_rows.specs.Printed.{millionths, topmost}
use Rattle.hh_rows.specs.declared.printed.RowOptions.{RowOptions}
use Rattle.hh_saved.specs.declared.saved.Saved.{Saved}
use Rattle.hh_saved.specs.declared.saved.Saved.TheVariants.{Counters, Cells}
use Rattle.hh_commands.specs.Bounds.{bounds_of}
use Rattle.hh_commands.specs.Files.{file_of, ◌>>=◌}
use Rattle.hh_faults.specs.declared.error.ToolError.{ToolError}
use Rattle.hh_faults.specs.declared.error.ToolError.TheVariants as tool
use Rattle.hh_changes.specs.Changes.{Difference, Pair, changes_in, greatest, least}

-- a difference in units of 10^-d, with a minus where it is below 0
abbrev pub signed : ℕ → Difference → List ℕ
signed d n = if nat_lt n.0 n.1 then minus ∷ pointed d (n.1 - n.0) else pointed d (n.0 - n.1)

-- what a share is of: the total, and 1 where it is 0, so that each share of it is 0
abbrev pub whole : ℕ → ℕ
whole total = if total == 0 then 1 else total

-- what is left of a weight's share where it is rounded down to millionths, in parts of the whole
abbrev pub left_over : ℕ → ℕ → ℕ
left_over total weight = (weight * 1000000) % whole total

-- the share of a total that a weight has, less another weight's share of another total, in millionths and
-- rounded down: one less where more is left over of the second share
abbrev pub share_less : ℕ × ℕ → ℕ × ℕ → Difference
share_less a b =
    let carry = if nat_lt (left_over a.0 a.1 * whole b.0) (left_over b.0 b.1 * whole a.0) then 1 else 0 in
    (millionths a.0 a.1, millionths b.0 b.1 + carry)

-- the least change of a share, rounded down, and the greatest one, rounded up
abbrev pub least_share : ℕ × ℕ → ℕ × ℕ → ℕ × ℕ → Difference
least_share totals old new = share_less (totals.1, new.0) (totals.0, old.1)

abbrev pub greatest_share : ℕ × ℕ → ℕ × ℕ → ℕ × ℕ → Difference
greatest_share totals old new = let d = share_less (totals.0, old.0) (totals.1, new.1) in (d.1, d.0)

-- the totals of both streams
abbrev pub totals_of : Pair → ℕ × ℕ
totals_of p = (p.old.total, p.new.total)

-- the last fields of a row, where they are wanted: bounds of the change of the key's share in percent
abbrev pub share_fields : Bool → ℕ × ℕ → ℕ × ℕ → ℕ × ℕ → List (List ℕ)
share_fields share totals old new =
    if share then signed 4 (least_share totals old new) ∷ signed 4 (greatest_share totals old new) ∷ [] else []

-- the fields of the row of a key: the key, and the least and the greatest change of its weight
abbrev pub change_fields : RowOptions → Pair → Entry → List (List ℕ)
change_fields options p e =
    let d = options.output.decimals in
    let old = bounds_of p.old e.0 in
    let new = bounds_of p.new e.0 in
    (e.0 ∷ signed d (least old new) ∷ signed d (greatest old new) ∷ [])
    ++ share_fields options.share (totals_of p) old new

-- the names of their columns
abbrev pub change_columns : Bool → List (List ℕ)
change_columns share =
    if share
    then codes "key" ∷ codes "least" ∷ codes "greatest" ∷ codes "least_share" ∷ codes "greatest_share" ∷ []
    else codes "key" ∷ codes "least" ∷ codes "greatest" ∷ []

-- the text of these rows, as the options want it
abbrev pub printed_changes : RowOptions → Pair → List Entry → List ℕ
printed_changes options p es =
    rows_in options.output (change_columns options.share) (change_fields options p) (topmost options.top es)

-- the summary that a value is, or this refusal
abbrev pub counters_or : ToolError → Saved → Result SummaryView ToolError
counters_or e (Counters s) = Ok s
counters_or e (Cells t) = Err e

-- the summary of file n, or its first fault, or this refusal where it holds a table
abbrev pub summary_of : ℕ → ToolError → List ℕ → Result SummaryView ToolError
summary_of n e file = do
  v ← file_of n file
  counters_or e v

-- the summaries of two files, or the first refusal
abbrev pub pair_in : List ℕ → List ℕ → Result Pair ToolError
pair_in old new = do
  s ← summary_of 1 tool.NotCounters old
  t ← summary_of 2 (tool.MixedKinds 2) new
  Ok (record { old = s; new = t })

-- the rows of the changes between the summaries of two files, or the first refusal
abbrev pub changes_between : Bool → RowOptions → List ℕ → List ℕ → Result (List ℕ) ToolError
changes_between all options old new = do
  p ← pair_in old new
  Ok (printed_changes options p (changes_in all p))
