-- The rows that are printed of a report.
use Rattle.std.specs.Prelude.{ℕ, false, ◌*◌, ◌/◌, ◌==◌, Bool, List, [], ◌∷◌, ◌++◌, codes, take, Option, Some, None, if◌then◌else◌}
use Rattle.hh_stream.specs.Weights.{Entry}
use Rattle.hh_records.specs.Decimals.{pointed}
use Rattle.hh_rows.specs.Outputs.{rows_in}
use Rattle.hh_rows.specs.declared.output.Output.{Output}
use Rattle.hh_rows.specs.declared.printed.RowOptions.{RowOptions}

-- a weight's share of a total in millionths, rounded down; of no total it is none
abbrev pub millionths : ℕ → ℕ → ℕ
millionths total weight = if total == 0 then 0 else (weight * 1000000) / total

-- n millionths in percent, with four digits after the point
abbrev pub percent : ℕ → List ℕ
percent n = pointed 4 n

-- a row's last field, where it has one: the weight's share of a total
abbrev pub share_fields : ℕ → Bool → ℕ → List (List ℕ)
share_fields total share weight = if share then percent (millionths total weight) ∷ [] else []

-- the fields of a row: the key, and the weight in units of 10^-d
abbrev pub weight_fields : ℕ → Entry → List (List ℕ)
weight_fields d e = e.0 ∷ pointed d e.1 ∷ []

-- and where it is wanted, the weight's share of a total
abbrev pub printed_fields : ℕ → RowOptions → Entry → List (List ℕ)
printed_fields total options e = weight_fields options.output.decimals e ++ share_fields total options.share e.1

-- the names of columns: of keys and their weights, and of a report
abbrev pub weight_columns : List (List ℕ)
weight_columns = codes "key" ∷ codes "weight" ∷ []

abbrev pub report_columns : RowOptions → List (List ℕ)
report_columns options = if options.share then codes "key" ∷ codes "weight" ∷ codes "share" ∷ [] else weight_columns

-- the first n rows, or all of them
abbrev pub topmost : {A : Type 0} → Option ℕ → List A → List A
topmost None es = es
topmost (Some n) es = take n es

-- the text of these rows as the options want it, with shares of a total
abbrev pub printed_rows : ℕ → RowOptions → List Entry → List ℕ
printed_rows total options es =
    rows_in options.output (report_columns options) (printed_fields total options) (topmost options.top es)

-- all rows, and no shares
abbrev pub all_rows : Output → RowOptions
all_rows output = record { top = None; share = false; output = output }
