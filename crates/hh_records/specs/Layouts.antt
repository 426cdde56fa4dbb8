-- Records whose key and weight stand in columns of one's own.
use Rattle.std.specs.Prelude.{◌≡◌, ◌==◌, ◌&&◌, ◌||◌, ◌+◌, ◌-◌, ◌^◌, ◌<◌, nat_le, ℕ, Bool, true, false, List, [], ◌∷◌, ◌++◌, length, map, min, not, Option, Some, None, IfSome, option_map, option_and_then, Result, Ok, Err, ⊤, if◌then◌else◌}
use Rattle.std.specs.List.{flat_map, position_from}
use Rattle.std.specs.Option.{option_to_list, option_zip}
use Rattle.std.specs.Str.{bytes_eq}
use Rattle.csv.specs.Machine.{ends_at_end}
use Rattle.csv.specs.Reading.{Ready, default_config, is_flexible, reader_config, reader_state, reader_trim, records, records_from, source_of, strip_bom}
use Rattle.csv.specs.Records.{field_at}
use Rattle.csv.specs.Writing.{comma, default_writer, row_body}
use Rattle.csv.specs.declared.parser.Config.{Config}
use Rattle.csv.specs.declared.parser.State.{State}
use Rattle.csv.specs.declared.reader.Reader.{Reader}
use Rattle.csv.specs.declared.reader.Trim.TheVariants as trim
use Rattle.hh_stream.specs.Digits.{is_number, value_of}
use Rattle.hh_stream.specs.Weights.{Bytes, Entry, max_total, total_of}
use Rattle.hh_records.specs.Decimals.{units_of}
use Rattle.hh_records.specs.Formats.{Names, Part, byte_between, fields_by, has_quotes, is_json, is_whole_field, part_of, part_said, with_part}
use Rattle.hh_records.specs.Streams.{Fields, Known, Parts, Reading, ReadsAs, item_of_key, parts_of}
use Rattle.hh_records.specs.declared.format.Format.TheVariants as format
use Rattle.hh_records.specs.declared.layout.ColumnIndices.{ColumnIndices}
use Rattle.hh_records.specs.declared.layout.Column.{Column}
use Rattle.hh_records.specs.declared.layout.Column.TheVariants as column
use Rattle.hh_records.specs.declared.layout.Layout.{Layout}
use Rattle.hh_faults.specs.declared.records.BadRecordCause.{BadRecordCause}
use Rattle.hh_faults.specs.declared.records.BadRecordCause.TheVariants as cause
use Rattle.hh_faults.specs.declared.records.TextError.{TextError}
use Rattle.hh_faults.specs.declared.records.TextError.TheVariants as text

-- where the fields of the key and that of the weight stand, from 0 on; nothing says that a record is
-- a key and, after it, its weight
abbrev pub Columns : Type 0
Columns = Option (List ℕ × Option ℕ)

abbrev pub chosen_columns : Option ColumnIndices → Columns
chosen_columns columns = option_map (λ c. (c.key.items, c.weight)) columns

-- what f gives of each, where it gives something of all
unfoldable pub every : {A B : Type 0} → (A → Option B) → List A → Option (List B)
every f [] = Some []
every f (x ∷ xs) = option_and_then (λ y. option_map (λ ys. y ∷ ys) (every f xs)) (f x)

-- the fields at these places, where a record has them all
abbrev pub fields_at : Fields → List ℕ → Option Fields
fields_at r is = every (field_at r) is

-- the key that some fields are: one is itself, and several are the text that csv writes of them
abbrev pub key_of : Fields → List ℕ
key_of [] = []
key_of (f ∷ []) = f
key_of (f ∷ g ∷ fs) = row_body default_writer (f ∷ g ∷ fs)

-- the weight's field, where the record has it or none is wanted
abbrev pub weight_at : Fields → Option ℕ → Option (Option (List ℕ))
weight_at r None = Some None
weight_at r (Some i) = option_map Some (field_at r i)

-- the key and the weight's field of these fields, by their columns and a part of the key's last one
abbrev pub parts_by : Columns → Part → Fields → Parts
parts_by None part r = option_map (λ p. (part_of part p.0, p.1)) (parts_of r)
parts_by (Some at) part r =
    option_zip (option_map (λ fs. key_of (with_part part fs)) (fields_at r at.0)) (weight_at r at.1)

-- the name of a member that a column is
abbrev pub name_of : Column → List (List ℕ)
name_of (column.Number n) = []
name_of (column.Name name) = name.items ∷ []

-- the name of the member that the weight is
abbrev pub weight_name : Option Column → Option (List ℕ)
weight_name None = None
weight_name (Some (column.Number n)) = None
weight_name (Some (column.Name name)) = Some name.items

-- the members that the columns of a layout name
abbrev pub member_names : Layout → Names
member_names layout = (flat_map name_of layout.key.items, weight_name layout.weight)

-- the key and the weight's field of a record that csv reads as these fields, by a layout and the places of
-- its columns
abbrev pub parts_at : Layout → Columns → Fields → Parts
parts_at layout at r = parts_by at (part_said layout.part) (fields_by layout.format (member_names layout) r)

-- a hyphen alone, as logs write it for no bytes
abbrev pub is_hyphen : List ℕ → Bool
is_hyphen [] = false
is_hyphen (b ∷ []) = b == 45
is_hyphen (b ∷ c ∷ rest) = false

-- the weight's field, in which a hyphen stands for 0 where weights of 0 are allowed
abbrev pub weight_read : Bool → Option (List ℕ) → Option (List ℕ)
weight_read allow None = None
weight_read allow (Some f) = Some (if allow && is_hyphen f then 48 ∷ [] else f)

-- what a record adds: its item, or nothing where it weighs 0 and that is allowed
abbrev pub added : Bool → Result Entry BadRecordCause → Result (List Entry) BadRecordCause
added allow (Ok e) = Ok (e ∷ [])
added allow (Err cause.ZeroWeight) = if allow then Ok [] else Err cause.ZeroWeight
added allow (Err c) = Err c

-- the weight that a field writes, in the units of a layout
abbrev pub weight_by : Layout → Option (List ℕ) → Option ℕ
weight_by layout f = units_of layout.decimals (weight_read layout.allow_zero f)

-- the item of a record, or the first test that it fails
abbrev pub item_by : Layout → Parts → Result Entry BadRecordCause
item_by layout None = Err cause.FieldCount
item_by layout (Some p) = item_of_key p.0 (weight_by layout p.1)

-- what a record adds by its own key and weight, or the first test that it fails
abbrev pub adds_itself : Layout → Parts → Result (List Entry) BadRecordCause
adds_itself layout p = added layout.allow_zero (item_by layout p)

-- the items of a key of this weight: none where it weighs 0
abbrev pub items_of_weight : Bytes → ℕ → List Entry
items_of_weight key w = if w == 0 then [] else (key, w) ∷ []

-- the key that each record counts as that fails a test, where there is one
abbrev pub bad_key : Layout → Option Bytes
bad_key layout = option_map (λ bad. bad.key.items) layout.bad_as

-- what a record adds that fails a test: it counts as a record of this key and no weight's field, so of
-- weight 1
abbrev pub adds_instead : Layout → Option Bytes → BadRecordCause → Result (List Entry) BadRecordCause
adds_instead layout None c = Err c
adds_instead layout (Some key) c = adds_itself layout (Some (key, None))

-- what a record adds, where this is what it adds itself
abbrev pub counted_as : Layout → Result (List Entry) BadRecordCause → Result (List Entry) BadRecordCause
counted_as layout (Ok es) = Ok es
counted_as layout (Err c) = adds_instead layout (bad_key layout) c

-- what a record adds whatever stands before it, or the first test that it fails
abbrev pub adds_alone : Layout → Parts → Result (List Entry) BadRecordCause
adds_alone layout p = counted_as layout (adds_itself layout p)

-- what is added after a total of t, unless the total is too large with it
abbrev pub added_after : ℕ → Result (List Entry) BadRecordCause → Result (List Entry) BadRecordCause
added_after t (Ok es) = if nat_le (t + total_of es) max_total then Ok es else Err cause.TotalTooLarge
added_after t (Err c) = Err c

-- what a record adds after a total of t, or the first test that it fails: that the total is too large
-- is the last, and such a record is refused though bad ones count as a key
abbrev pub adds : Layout → ℕ → Parts → Result (List Entry) BadRecordCause
adds layout t p = added_after t (adds_alone layout p)

abbrev pub joined : List Entry → Reading → Reading
joined es (Ok xs) = Ok (es ++ xs)
joined es (Err e) = Err e

abbrev pub adding_next : Result (List Entry) BadRecordCause → ℕ → (List Entry → Reading) → Reading
adding_next (Ok es) n more = joined es (more es)
adding_next (Err c) n more = Err (n, c)

-- what the records from number n on add after a total of t, or the first that fails
unfoldable pub items_after : Layout → ℕ → ℕ → List Parts → Reading
items_after layout n t [] = Ok []
items_after layout n t (p ∷ ps) =
    adding_next (adds layout t p) n (λ es. items_after layout (n + 1) (t + total_of es) ps)

-- the byte that a word names to stand between fields: itself, or a tab for a backslash and t, but no
-- quote, carriage return or line feed
abbrev pub delimiter_of : List ℕ → Option ℕ
delimiter_of [] = None
delimiter_of (b ∷ []) = if b == 34 || b == 13 || b == 10 then None else Some b
delimiter_of (b ∷ c ∷ []) = if b == 92 && c == 116 then Some 9 else None
delimiter_of (b ∷ c ∷ d ∷ rest) = None

-- digits alone, as many as there are
abbrev pub is_digits : List ℕ → Bool
is_digits word = is_number (length word) word

-- a word names this column: digits alone its number, from 1 on and at most the largest u64, which no
-- record has; and another word its name, which only a header has
abbrev pub NamesColumn : Bool → List ℕ → Column → Type 0
NamesColumn has_header word (column.Number n) =
    (is_digits word ≡ true) × (n ≡ min (value_of word) (2 ^ 64 - 1)) × (0 < n)
NamesColumn has_header word (column.Name name) =
    (has_header ≡ true) × (is_digits word ≡ false) × (name.items ≡ word)

-- how csv reads fields with this byte between them, with quotes or without
abbrev pub configured : Bool → ℕ → Config
configured quoting d = record default_config { delimiter = d; quoting = quoting }

-- how csv reads fields that may be quoted, with this byte between them
abbrev pub delimited : ℕ → Config
delimited d = configured true d

-- how csv reads the records of a layout
abbrev pub config_of : Layout → Config
config_of layout =
    configured (has_quotes layout.format) (byte_between layout.format layout.delimiter)

-- the place of the first field like a name, where the list starts at this place
abbrev pub named_from : List ℕ → ℕ → Fields → Option ℕ
named_from name i fields = position_from (λ f. bytes_eq f name) i fields

-- the place of a column: its number less one, or that of the first name like it in the header
abbrev pub place_of : Fields → Column → Option ℕ
place_of header (column.Number n) = if n == 0 then None else Some (n - 1)
place_of header (column.Name name) = named_from name.items 0 header

abbrev pub places_of : Fields → List Column → Option (List ℕ)
places_of header cs = every (place_of header) cs

-- the places of the key's columns: of none, that of column 1
abbrev pub key_places : Fields → List Column → Option (List ℕ)
key_places header [] = Some (0 ∷ [])
key_places header (c ∷ cs) = places_of header (c ∷ cs)

-- the place of the weight's column, where none or the header has it
abbrev pub weight_place : Fields → Option Column → Option (Option ℕ)
weight_place header None = Some None
weight_place header (Some c) = option_map Some (place_of header c)

-- whether no column is named
abbrev pub names_none : List Column → Option Column → Bool
names_none [] None = true
names_none [] (Some c) = false
names_none (c ∷ cs) weight = false

-- whether a layout names columns
abbrev pub names_columns : Layout → Bool
names_columns layout = not (names_none layout.key.items layout.weight)

-- the columns that a layout names, or nothing where these fields of a header lack one
abbrev pub columns_among : Layout → Fields → Option Columns
columns_among layout header =
    if names_columns layout
    then option_map Some
    (option_zip (key_places header layout.key.items) (weight_place header layout.weight))
    else Some None

-- the names of a record's fields, by the header of its text or, of an object, those of its members
abbrev pub field_names : Layout → Fields → Fields
field_names layout header =
    if is_json layout.format then (member_names layout).0 ++ option_to_list (member_names layout).1
    else fields_by layout.format (member_names layout) header

-- the columns of a layout in a text with this header, or nothing where the header lacks one
abbrev pub columns_in : Layout → Fields → Option Columns
columns_in layout header = columns_among layout (field_names layout header)

-- a layout of a key and, after a comma, its weight, a whole number but 0, with no header
pub record IsPlain (layout : Layout) : Type 0 where
  pub csv : layout.format ≡ format.Csv
  pub whole_field : is_whole_field (part_said layout.part) ≡ true
  pub delimiter : layout.delimiter ≡ comma
  pub no_header : layout.has_header ≡ false
  pub no_key : layout.key.items ≡ []
  pub no_weight : layout.weight ≡ None
  pub no_zero : layout.allow_zero ≡ false
  pub no_bad : layout.bad_as ≡ None
  pub whole : layout.decimals ≡ 0

-- what a refusal to find the columns of a layout says, where this is what there is of them
abbrev pub ColumnsRefused : {A : Type 0} → Layout → Option A → TextError → Type 0
ColumnsRefused layout found text.NoColumn = (names_columns layout ≡ true) × (found ≡ None)
ColumnsRefused layout found text.Memory = ⊤
ColumnsRefused layout found _ = ⊥

-- the records of a text, each as its key and its weight's field; an empty text has no header, and no
-- records
abbrev pub headed_parts : Layout → List Fields → Option (List Parts)
headed_parts layout [] = Some []
headed_parts layout (h ∷ rows) = option_map (λ at. map (parts_at layout at) rows) (columns_in layout h)

abbrev pub text_parts : Layout → List ℕ → Option (List Parts)
text_parts layout text =
    let rows = records (config_of layout) (strip_bom text) in
    if layout.has_header then headed_parts layout rows
    else option_map (λ at. map (parts_at layout at) rows) (columns_in layout [])

-- what f gives of each, one after the other, where it gives something of all
unfoldable pub gathered : {A B : Type 0} → (A → Option (List B)) → List A → Option (List B)
gathered f [] = Some []
gathered f (x ∷ xs) = option_and_then (λ ps. option_map (λ qs. ps ++ qs) (gathered f xs)) (f x)

-- the records of texts, one text after the other, or nothing where a header lacks a column
abbrev pub texts_parts : Layout → List (List ℕ) → Option (List Parts)
texts_parts layout texts = gathered (text_parts layout) texts

-- what texts read as by a layout, or nothing where a header lacks a column
abbrev pub stream_with : Layout → List (List ℕ) → Option Reading
stream_with layout texts = option_map (items_after layout 1 0) (texts_parts layout texts)

-- what the refusal of record n tells, where this is what it adds
abbrev pub RecordRefused : ℕ → Result (List Entry) BadRecordCause → TextError → Type 0
RecordRefused n added (text.BadRecord m c) = (m ≡ n) × (added ≡ Err c)
RecordRefused n added text.Memory = ⊤
RecordRefused n added _ = ⊥

-- these bytes, of a reader that stands between two records
abbrev pub between : State → Option (List ℕ) → Option (List ℕ)
between state bytes = if ends_at_end state then None else bytes

-- a reader whose next read is of a record, as it stands there
pub record IsReady {R : Type 0} (rows : Reader R) : Type 0 where
  pub untrimmed : reader_trim rows ≡ trim.None
  pub ready : Ready rows
  pub flexible : is_flexible rows ≡ true

-- the records that a reader has left, each as its key and its weight's field, where its bytes are known
abbrev pub rows_left : {R : Type 0} → (R → Option (List ℕ)) → Layout → Columns → Reader R → Option (List Parts)
rows_left remaining layout at rows =
    option_map (λ bytes. map (parts_at layout at)
    (records_from (reader_config rows) (length bytes + 1) (reader_state rows) bytes))
    (between (reader_state rows) (source_of remaining rows))

-- what a refusal to read the records of a text says, where this number of others come before them
-- and a total of t
abbrev pub RowsRefused : Layout → ℕ → ℕ → Option (List Parts) → TextError → Type 0
RowsRefused layout before t left text.ReadFault = ⊤
RowsRefused layout before t left text.NoColumn = ⊥
RowsRefused layout before t left (text.BadRecord n c) =
    IfSome left (λ ps. items_after layout (before + 1) t ps ≡ Err (n, c))
RowsRefused layout before t left text.Memory = ⊤

-- what a refusal to open texts says of their records, where they are known
abbrev pub OpenRefused : Bool → Option (Option (List Parts)) → TextError → Type 0
OpenRefused names parts text.ReadFault = ⊤
OpenRefused names parts text.NoColumn = (names ≡ true) × IfSome parts (λ ps. ps ≡ None)
OpenRefused names parts (text.BadRecord n c) = ⊥
OpenRefused names parts text.Memory = ⊤

-- what is known of the records of some texts: what they read as, where all bytes are known
abbrev pub texts_known : {R : Type 0} → (R → Option (List ℕ)) → Layout → List R → Known
texts_known bytes layout texts = record {
  names_columns = names_columns layout;
  reading = option_map (stream_with layout) (every bytes texts);
}

-- what a refusal to read records by a layout says of them
abbrev pub TextsRefused : Known → TextError → Type 0
TextsRefused known text.ReadFault = ⊤
TextsRefused known text.NoColumn = (known.names_columns ≡ true) × IfSome known.reading (λ r. r ≡ None)
TextsRefused known (text.BadRecord n c) = ReadsAs known (Err (n, c))
TextsRefused known text.Memory = ⊤

-- ---- the columns of a text
abbrev pub first_of : {A : Type 0} → List A → Option A
first_of [] = None
first_of (x ∷ xs) = Some x

-- the header by which a layout finds its columns: the first of some records, where it has a header,
-- and no fields where it has none
abbrev pub header_of : Layout → List Fields → Option Fields
header_of layout rows = if layout.has_header then first_of rows else Some []

abbrev pub columns_of : Layout → List Fields → Option Columns
columns_of layout rows = option_and_then (columns_in layout) (header_of layout rows)

-- these are a layout's columns in a text of these records, or the text has no record for a header
abbrev pub FindsColumns : Layout → List Fields → Option Columns → Type 0
FindsColumns layout rows None = header_of layout rows ≡ None
FindsColumns layout rows (Some at) = columns_of layout rows ≡ Some at

-- the records of a text as csv reads it by a layout, with the header
abbrev pub rows_in : Layout → List ℕ → List Fields
rows_in layout bytes = records (config_of layout) (strip_bom bytes)
