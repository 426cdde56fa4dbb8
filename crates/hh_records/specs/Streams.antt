-- The stream that a text of records writes.
use Rattle.std.specs.Prelude.{◌≡◌, ◌==◌, ◌+◌, nat_le, ℕ, Bool, false, List, [], ◌∷◌, ◌++◌, length, Option, Some, None, IfSome, option_map, Result, Ok, Err, if◌then◌else◌}
use Rattle.csv.specs.Reading.{default_config, records, strip_bom}
use Rattle.csv.specs.declared.error.ErrorKind.{ErrorKind}
use Rattle.csv.specs.declared.error.ErrorKind.TheVariants as kind
use Rattle.hh_stream.specs.Digits.{is_number, value_of}
use Rattle.hh_stream.specs.Weights.{Bytes, Entry, total_of, max_total, max_key_len}
use Rattle.hh_faults.specs.declared.records.BadRecordCause.{BadRecordCause}
use Rattle.hh_faults.specs.declared.records.BadRecordCause.TheVariants as cause
use Rattle.hh_faults.specs.declared.records.TextError.{TextError}
use Rattle.hh_faults.specs.declared.records.TextError.TheVariants as text

-- the fields of a record
abbrev pub Fields : Type 0
Fields = List (List ℕ)

-- a weight's field has 1 to 20 digits
abbrev pub is_weight : List ℕ → Bool
is_weight f = is_number 20 f

-- a weight, or why it is none
abbrev pub weight_or_cause : Option ℕ → Result ℕ BadRecordCause
weight_or_cause None = Err cause.BadWeight
weight_or_cause (Some w) = if w == 0 then Err cause.ZeroWeight else Ok w

-- the weight that a field writes, and 1 where there is none
abbrev pub field_weight : Option (List ℕ) → Option ℕ
field_weight None = Some 1
field_weight (Some f) = if is_weight f then Some (value_of f) else None

-- the key and the weight's field of a record, or nothing where it hasn't the fields for them
abbrev pub Parts : Type 0
Parts = Option (List ℕ × Option (List ℕ))

-- a record of one or two fields, as the key and the weight's field
abbrev pub parts_of : Fields → Parts
parts_of [] = None
parts_of (k ∷ []) = Some (k, None)
parts_of (k ∷ f ∷ []) = Some (k, Some f)
parts_of (k ∷ f ∷ g ∷ rest) = None

abbrev pub item_of_pair : Bytes → Result ℕ BadRecordCause → Result Entry BadRecordCause
item_of_pair k (Ok w) = Ok (k, w)
item_of_pair k (Err c) = Err c

-- a key of this weight, or the first test that it fails
abbrev pub item_of_key : Bytes → Option ℕ → Result Entry BadRecordCause
item_of_key k w =
    if length k == 0 then Err cause.EmptyKey
    else if nat_le (length k) max_key_len then item_of_pair k (weight_or_cause w)
    else Err cause.KeyTooLong

abbrev pub item_of_parts : Parts → Result Entry BadRecordCause
item_of_parts None = Err cause.FieldCount
item_of_parts (Some p) = item_of_key p.0 (field_weight p.1)

-- an item after a total of t, unless the total is too large with it
abbrev pub item_after : ℕ → Result Entry BadRecordCause → Result Entry BadRecordCause
item_after t (Ok e) = if nat_le (t + e.1) max_total then Ok e else Err cause.TotalTooLarge
item_after t (Err c) = Err c

-- the item of a record after a total of t, or the first test that it fails
abbrev pub item_of_fields : ℕ → Fields → Result Entry BadRecordCause
item_of_fields t r = item_after t (item_of_parts (parts_of r))

-- a stream, or the number and the cause of the first record that fails
abbrev pub Reading : Type 0
Reading = Result (List Entry) (ℕ × BadRecordCause)

abbrev pub reading_next : Result Entry BadRecordCause → ℕ → (Entry → Reading) → Reading
reading_next (Ok p) n more = more p
reading_next (Err c) n more = Err (n, c)

-- the items xs, and then those of the records from number n on
unfoldable pub items_from : ℕ → List Entry → List Fields → Reading
items_from n xs [] = Ok xs
items_from n xs (r ∷ rs) =
    reading_next (item_of_fields (total_of xs) r) n (λ p. items_from (n + 1) (xs ++ p ∷ []) rs)

-- what a text reads as, over all the records that csv reads from it
abbrev pub stream_of : List ℕ → Reading
stream_of text = items_from 1 [] (records default_config (strip_bom text))

-- what is known of records that are to be read: whether columns of them are named, and what they read
-- as, or nothing where such a column is missing
pub record Known : Type 0 where
  pub names_columns : Bool
  pub reading : Option (Option Reading)

-- what is known of a text of keys and weights, of which a reader has these bytes left
abbrev pub text_known : Option (List ℕ) → Known
text_known left = record {
  names_columns = false;
  reading = option_map (λ text. Some (stream_of text)) left;
}

-- the records read as this, where that is known
abbrev pub ReadsAs : Known → Reading → Type 0
ReadsAs known reading = IfSome known.reading (λ r. r ≡ Some reading)

-- how a fault of csv's reader ends the reading: its want of memory is Memory, and any other fault
-- is one of the reader underneath
abbrev pub fault_of : ErrorKind → TextError
fault_of kind.OutOfMemory = text.Memory
fault_of _ = text.ReadFault
