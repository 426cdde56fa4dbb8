-- Rows in each form.
use Rattle.std.specs.Prelude.{◌≡◌, ℕ, false, List, [], ◌∷◌, ◌++◌, if◌then◌else◌}
use Rattle.std.specs.List.{flat_map}
use Rattle.csv.specs.Writing.{default_writer, fields_written, has_written, row_text, with_delimiter, with_style, writer_setup}
use Rattle.csv.specs.declared.writer.QuoteStyle.TheVariants as style
use Rattle.csv.specs.declared.writer.Writer.{Writer}
use Rattle.csv.specs.declared.writer.WriterBuilder.{WriterBuilder}
use Rattle.hh_rows.specs.Json.{object_text}
use Rattle.hh_rows.specs.declared.output.Form.{Form}
use Rattle.hh_rows.specs.declared.output.Form.TheVariants as form
use Rattle.hh_rows.specs.declared.output.Output.{Output}

-- rows as CSV, with no names of columns, and with weights in units of 10^-d
abbrev pub plain_output : ℕ → Output
plain_output d = record { form = form.Csv; has_names = false; decimals = d }

-- how csv writes a record: between commas, between tabs, or without quotes
abbrev pub writer_of : Form → WriterBuilder
writer_of form.Csv = default_writer
writer_of form.Tsv = with_delimiter default_writer 9
writer_of form.Json = with_style default_writer style.Never

-- a writer of csv with these settings is between two records
abbrev pub IsBetweenRows : {W : Type 0} → WriterBuilder → Writer W → Type 0
IsBetweenRows builder w = (fields_written w ≡ 0) × (has_written w ≡ false) × (writer_setup w ≡ builder)

-- the fields that csv writes for a row of columns with these names: in JSON the object alone
abbrev pub fields_in : Form → List (List ℕ) → List (List ℕ) → List (List ℕ)
fields_in form.Csv names fields = fields
fields_in form.Tsv names fields = fields
fields_in form.Json names fields = object_text names fields ∷ []

-- the text of a row of columns with these names
abbrev pub row_in : Form → List (List ℕ) → List (List ℕ) → List ℕ
row_in f names fields = row_text (writer_of f) (fields_in f names fields)

-- the row of the names; each object has them by itself
abbrev pub names_row : Form → List (List ℕ) → List ℕ
names_row form.Csv names = row_in form.Csv names names
names_row form.Tsv names = row_in form.Tsv names names
names_row form.Json names = []

-- rows that are written in a form, of columns with these names
pub record Written : Type 0 where
  pub form : Form
  pub names : List (List ℕ)
  pub text : List ℕ

-- no row yet, but that of the names where it is wanted
abbrev pub no_rows : Output → List (List ℕ) → Written
no_rows output names = record {
  form = output.form;
  names = names;
  text = if output.has_names then names_row output.form names else [];
}

-- a row of these fields after the others
abbrev pub with_row : Written → List (List ℕ) → Written
with_row rows fields = record rows { text = rows.text ++ row_in rows.form rows.names fields }

-- the rows of some values after the others
abbrev pub with_rows : {A : Type 0} → Written → (A → List (List ℕ)) → List A → Written
with_rows rows fields_of xs = record rows { text = rows.text ++ flat_map (λ x. row_in rows.form rows.names (fields_of x)) xs }

-- the text of the rows of some values, with that of the names before them where it is wanted
abbrev pub rows_in : {A : Type 0} → Output → List (List ℕ) → (A → List (List ℕ)) → List A → List ℕ
rows_in output names fields_of xs = (with_rows (no_rows output names) fields_of xs).text
