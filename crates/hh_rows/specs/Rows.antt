-- The rows of a report.
use Rattle.std.specs.Prelude.{ℕ, Bool, false, List, [], ◌∷◌, ◌++◌, if◌then◌else◌}
use Rattle.std.specs.List.{flat_map}
use Rattle.csv.specs.Machine.{line_feed}
use Rattle.csv.specs.Reading.{is_bom}
use Rattle.csv.specs.Writing.{comma, default_writer, quoted, row_text}
use Rattle.hh_stream.specs.Weights.{Bytes, Entry}
use Rattle.hh_records.specs.Decimals.{pointed}
use Rattle.hh_rows.specs.Outputs.{Written, no_rows, plain_output, row_in, with_rows}
use Rattle.hh_rows.specs.Printed.{weight_columns, weight_fields}
use Rattle.hh_rows.specs.declared.output.Form.{Form}
use Rattle.hh_rows.specs.declared.output.Form.TheVariants as form
use Rattle.hh_rows.specs.declared.output.Output.{Output}

-- the text of one row: the key and the weight, in units of 10^-d, as csv's default writer writes them,
-- and a line feed
abbrev pub row_by : ℕ → Entry → List ℕ
row_by d e = row_text default_writer (weight_fields d e)

-- the text of these rows, one after the other
abbrev pub rows_by : ℕ → List Entry → List ℕ
rows_by d es = flat_map (row_by d) es

-- the text of one row, or of several, whose weights are whole numbers
abbrev pub row_of : Entry → List ℕ
row_of e = row_by 0 e

abbrev pub rows_of : List Entry → List ℕ
rows_of es = rows_by 0 es

-- whether a key begins with the three bytes of a byte order mark
abbrev pub begins_with_mark : Bytes → Bool
begins_with_mark [] = false
begins_with_mark (a ∷ []) = false
begins_with_mark (a ∷ b ∷ []) = false
begins_with_mark (a ∷ b ∷ c ∷ rest) = is_bom a b c

-- the text of a row whose key is in quotes
abbrev pub quoted_row_by : ℕ → Entry → List ℕ
quoted_row_by d e = quoted default_writer e.0 ++ (comma ∷ (pointed d e.1 ++ (line_feed ∷ [])))

-- whether a reader takes bytes of a key off that stands first: in CSV those of a mark
abbrev pub is_marked : Form → Bytes → Bool
is_marked form.Csv x = begins_with_mark x
is_marked f x = false

-- the text of a row that may stand first
abbrev pub first_row_in : Output → Entry → List ℕ
first_row_in output e =
    if is_marked output.form e.0 then quoted_row_by output.decimals e
    else row_in output.form weight_columns (weight_fields output.decimals e)

-- such a row, and that of the names before it where it is wanted
abbrev pub first_row : Output → Entry → Written
first_row output e =
    let rows = no_rows output weight_columns in record rows { text = rows.text ++ first_row_in output e }

-- the text of these rows, of which the first may stand first
abbrev pub condensed_in : Output → List Entry → List ℕ
condensed_in output [] = (no_rows output weight_columns).text
condensed_in output (e ∷ es) = (with_rows (first_row output e) (weight_fields output.decimals) es).text

-- their text as CSV, with weights in whole numbers
abbrev pub condensed_text : List Entry → List ℕ
condensed_text es = condensed_in (plain_output 0) es
