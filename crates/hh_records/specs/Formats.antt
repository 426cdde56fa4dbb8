-- How the fields of a record follow from what csv reads, and which part of a field is the key.
use Rattle.std.specs.Prelude.{ℕ, Bool, true, false, List, [], ◌∷◌, not, take, Option, Some, None}
use Rattle.std.specs.List.{filter, position_or_len}
use Rattle.bstr.specs.Bytes.{is_in}
use Rattle.bstr.specs.Owned as bytes
use Rattle.hh_json.specs.Fields.{json_fields}
use Rattle.hh_records.specs.Streams.{Fields}
use Rattle.hh_records.specs.declared.format.Format.{Format}
use Rattle.hh_records.specs.declared.format.Format.TheVariants as format
use Rattle.hh_records.specs.declared.format.KeyPart.{KeyPart}

-- whether fields may be quoted
abbrev pub has_quotes : Format → Bool
has_quotes format.Csv = true
has_quotes format.Unquoted = false
has_quotes format.Squeezed = false
has_quotes format.Lines = false
has_quotes format.Json = false

-- whether records are JSON objects
abbrev pub is_json : Format → Bool
is_json format.Csv = false
is_json format.Unquoted = false
is_json format.Squeezed = false
is_json format.Lines = false
is_json format.Json = true

-- the byte between fields, by that of a layout: a line is cut at none, and joined where csv cut it
abbrev pub byte_between : Format → ℕ → ℕ
byte_between format.Csv delimiter = delimiter
byte_between format.Unquoted delimiter = delimiter
byte_between format.Squeezed delimiter = delimiter
byte_between format.Lines delimiter = 0
byte_between format.Json delimiter = 0

-- whether a field has no bytes
abbrev pub is_empty : List ℕ → Bool
is_empty [] = true
is_empty (c ∷ rest) = false

-- the line that csv cut into these fields where no byte parts them
abbrev pub line_of : Fields → List ℕ
line_of r = bytes.joined (0 ∷ []) r

-- the names of the members of an object that are fields: those of the key, and that of the weight
abbrev pub Names : Type 0
Names = List (List ℕ) × Option (List ℕ)

-- the fields of a record that csv reads as these: all but the empty ones, where several delimiters are
-- one; the line as one field, where a record is a line; and the members of an object that are named
abbrev pub fields_by : Format → Names → Fields → Fields
fields_by format.Csv names r = r
fields_by format.Unquoted names r = r
fields_by format.Squeezed names r = filter (λ f. not (is_empty f)) r
fields_by format.Lines names r = line_of r ∷ []
fields_by format.Json names r = json_fields names.0 names.1 (line_of r)

-- a part of a field: what comes before the first of some bytes, and no more than some bytes of it
abbrev pub Part : Type 0
Part = List ℕ × Option ℕ

-- the part that this is in a program
abbrev pub part_said : KeyPart → Part
part_said part = (part.until.items, part.prefix)

-- whether the part is the whole field
abbrev pub is_whole_field : Part → Bool
is_whole_field ([], None) = true
is_whole_field ([], Some n) = false
is_whole_field (b ∷ until, prefix) = false

-- at most this many bytes of a field, where there is a number
abbrev pub shortened : Option ℕ → List ℕ → List ℕ
shortened None f = f
shortened (Some n) f = take n f

-- this part of a field
abbrev pub part_of : Part → List ℕ → List ℕ
part_of part f = shortened part.1 (take (position_or_len (is_in part.0) f) f)

-- these fields with a part of the last one in its place
unfoldable pub with_part : Part → Fields → Fields
with_part part [] = []
with_part part (f ∷ []) = part_of part f ∷ []
with_part part (f ∷ g ∷ rest) = f ∷ with_part part (g ∷ rest)
