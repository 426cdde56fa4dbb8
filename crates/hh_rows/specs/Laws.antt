-- What holds of rows that are written.
use Rattle.std.specs.Prelude.{◌≡◌, ◌+◌, ◌*◌, ◌<◌, ◌≤◌, ℕ, All, IsUtf8, Bool, true, false, List, [], ◌∷◌, codes, length, Ok}
use Rattle.std.specs.List.{AllByRecursion, flat_map}
use Rattle.hh_stream.specs.Weights.{AreItems, Entry, max_total, total_of}
use Rattle.hh_stream.specs.Cuttings.{whole_of}
use Rattle.hh_summaries.specs.Counters.{SummaryView, max_k}
use Rattle.hh_counters.specs.Condensed.{condensed}
use Rattle.hh_rows.specs.Json.{is_control, string_text}
use Rattle.hh_rows.specs.Outputs.{plain_output, row_in, rows_in}
use Rattle.hh_rows.specs.Printed.{all_rows, millionths, printed_rows, weight_columns}
use Rattle.hh_rows.specs.Rows.{condensed_text, rows_by}
use Rattle.hh_records.specs.Streams.{stream_of}
use Rattle.hh_rows.specs.declared.output.Form.{Form}
use Rattle.hh_rows.specs.declared.output.Form.TheVariants as form

-- condensed parts in files that are joined are read as the condensed parts
abbrev pub CondensedFilesAreRead : Type 0
CondensedFilesAreRead =
    (s : SummaryView) (parts : List (List Entry)) → length s.counters ≤ max_k
    → AllByRecursion AreItems parts → total_of (whole_of parts) ≤ max_total
    → stream_of (flat_map (λ part. condensed_text (condensed s.counters part)) parts)
    ≡ Ok (flat_map (condensed s.counters) parts)

-- all rows, plain and with no shares, are the rows of a report
abbrev pub PlainRowsAreRows : Type 0
PlainRowsAreRows =
    (total d : ℕ) (es : List Entry) → printed_rows total (all_rows (plain_output d)) es ≡ rows_by d es

-- a share is the most millionths of the total that the weight has
abbrev pub SharesAreRoundedDown : Type 0
SharesAreRoundedDown =
    (total weight : ℕ) → 0 < total
    → (millionths total weight * total ≤ weight * 1000000)
    × (weight * 1000000 < (millionths total weight + 1) * total)

-- equal strings are of equal fields, whether these are UTF-8 or not
abbrev pub StringsTellFieldsApart : Type 0
StringsTellFieldsApart = (f g : List ℕ) → string_text f ≡ string_text g → f ≡ g

-- a string is UTF-8, also that of bytes that are not
abbrev pub StringsAreUtf8 : Type 0
StringsAreUtf8 = (f : List ℕ) → All (λ b. b < 256) f → IsUtf8 (string_text f)

-- a string has no control character, so that it stands in one line
abbrev pub StringsHaveNoControls : Type 0
StringsHaveNoControls =
    (f : List ℕ) → All (λ b. b < 256) f → All (λ b. is_control b ≡ false) (string_text f)

-- two rows of a key and a weight
abbrev pub example_rows : List (List (List ℕ))
example_rows = (codes "a" ∷ codes "1" ∷ []) ∷ (codes "b \"c" ∷ codes "20" ∷ []) ∷ []

-- how they are written in a form
abbrev pub example_in : Form → Bool → List ℕ
example_in f names =
    rows_in (record { form = f; has_names = names; decimals = 0 }) weight_columns (λ fields. fields) example_rows

-- the rows in each form
abbrev pub ExampleRows : Type 0
ExampleRows =
    (example_in form.Csv true ≡ codes "key,weight\na,1\n\"b \"\"c\",20\n")
    × (example_in form.Tsv true ≡ codes "key\tweight\na\t1\n\"b \"\"c\"\t20\n")
    × (example_in form.Json false ≡ codes "{\"key\":\"a\",\"weight\":1}\n{\"key\":\"b \\\"c\",\"weight\":20}\n")
    × (row_in form.Json (codes "name" ∷ codes "value" ∷ []) (codes "kind" ∷ codes "table" ∷ [])
    ≡ codes "{\"name\":\"kind\",\"value\":\"table\"}\n")

-- fields as strings: one that is UTF-8, one that is not, and one of bytes that are escaped
abbrev pub ExampleStrings : Type 0
ExampleStrings =
    (string_text (195 ∷ 164 ∷ []) ≡ 34 ∷ 195 ∷ 164 ∷ 34 ∷ [])
    × (string_text (195 ∷ 97 ∷ []) ≡ codes "\"\\udcc3a\"")
    × (string_text (92 ∷ 34 ∷ 31 ∷ 127 ∷ []) ≡ codes "\"\\\\\\\"\\u001f\\u007f\"")
