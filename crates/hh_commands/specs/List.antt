-- What a saved summary tells of all its keys.
use Rattle.std.specs.Prelude.{◌≡◌, ◌+◌, ℕ, List}
use Rattle.hh_stream.specs.Weights.{Entry}
use Rattle.hh_summaries.specs.Counters.{SummaryView, slack}
use Rattle.hh_summaries.specs.Report.{by_rank}
use Rattle.hh_rows.specs.Outputs.{plain_output, rows_in}
use Rattle.hh_rows.specs.declared.output.Output.{Output}
use Rattle.hh_commands.specs.Ask.{bound_columns, bounds_fields}
use Rattle.hh_commands.specs.Files.{HoldsSummary}

-- the fields of the row of a key with this counter, in units of 10^-d: its weight is at least the counter,
-- and at most that and the slack
abbrev pub entry_fields : ℕ → SummaryView → Entry → List (List ℕ)
entry_fields d s e = bounds_fields d e.0 (e.1, e.1 + slack s.counters s.total s.k)

-- the rows of keys with their counters
abbrev pub entry_rows : Output → SummaryView → List Entry → List ℕ
entry_rows output s es = rows_in output bound_columns (entry_fields output.decimals s) es

-- the file holds a summary, and these are the rows of its keys, by falling counter and then by
-- rising key
abbrev pub ListsIn : Output → List ℕ → List ℕ → Type 0
ListsIn output file rows =
    (s : SummaryView) × HoldsSummary file s × (rows ≡ entry_rows output s (by_rank s.counters))

-- so it does, with the rows as CSV, in units of 10^-d
abbrev pub ListsRows : ℕ → List ℕ → List ℕ → Type 0
ListsRows d file rows = ListsIn (plain_output d) file rows
