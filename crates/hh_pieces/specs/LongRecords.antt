-- Records that are read byte by byte, of which no more is kept than a layout reads.
use Rattle.std.specs.List.{filter}
use Rattle.std.specs.Prelude.{◌≡◌, ◌<◌, All, IfSome, nat_lt, not, ℕ, Bool, true, false, List, [], ◌∷◌, map, take, Option, Some, None, ⊤}
use Rattle.csv.specs.Machine.{Feeds, ends_at_end}
use Rattle.csv.specs.Reading.{records, strip_bom}
use Rattle.csv.specs.Records.{fields_of, partial_of}
use Rattle.csv.specs.declared.parser.Action.{Action}
use Rattle.csv.specs.declared.parser.Action.TheVariants as act
use Rattle.csv.specs.declared.parser.Config.{Config}
use Rattle.csv.specs.declared.parser.State.{State}
use Rattle.csv.specs.declared.parser.State.TheVariants as st
use Rattle.hh_records.specs.Formats.{is_empty}
use Rattle.hh_records.specs.Layouts.{Columns, configured}
use Rattle.hh_records.specs.Streams.{Fields}
use Rattle.hh_faults.specs.declared.records.TextError.{TextError}
use Rattle.hh_faults.specs.declared.records.TextError.TheVariants as text
use Rattle.hh_pieces.specs.Lines.{is_line_end}
use Rattle.hh_pieces.specs.Pieces.{ends_outside}
use Rattle.hh_pieces.specs.declared.long_record.Effect.{Effect}
use Rattle.hh_pieces.specs.declared.long_record.Effect.TheVariants as effect
use Rattle.hh_pieces.specs.declared.long_record.Limits.{Limits}
use Rattle.hh_pieces.specs.declared.long_record.LongRecord.{LongRecord}
use Rattle.hh_pieces.specs.declared.long_record.Spot.{Spot}
use Rattle.hh_pieces.specs.declared.long_record.Spot.TheVariants as spot
use Rattle.hh_pieces.specs.declared.long_record.Syntax.{Syntax}

-- how csv reads records of this syntax
abbrev pub config_for : Syntax → Config
config_for syntax = configured syntax.quoting syntax.delimiter

-- the state of csv's machine at a spot
abbrev pub state_of : Spot → State
state_of spot.Record = st.StartRecord
state_of spot.Field = st.StartField
state_of spot.Plain = st.InField
state_of spot.Quoted = st.InQuoted
state_of spot.Quote = st.AfterQuote
state_of spot.Return = st.AfterCr

-- a byte ends a record, and leaves no other at hand
abbrev pub EndsRecord : ℕ → Spot → Type 0
EndsRecord byte spot = (is_line_end byte ≡ true) × (ends_at_end (state_of spot) ≡ false)

-- what an effect is to csv's machine
abbrev pub action_of : Effect → Action
action_of effect.Skip = act.Skip
action_of effect.Copy = act.Copy
action_of effect.EndField = act.EndField
action_of effect.EndRecord = act.EndRecord

-- the first of these: where there is a number, no more than that
abbrev pub first_ones : {A : Type 0} → Option ℕ → List A → List A
first_ones None xs = xs
first_ones (Some n) xs = take n xs

-- whether one more is kept behind count others
abbrev pub is_kept : Option ℕ → ℕ → Bool
is_kept None count = true
is_kept (Some n) count = nat_lt count n

-- these fields, but empty ones where they count for nothing
abbrev pub filled : Bool → Fields → Fields
filled false fs = fs
filled true fs = filter (λ f. not (is_empty f)) fs

-- what is kept of the fields of a record
abbrev pub kept_of : Limits → Fields → Fields
kept_of limits fs = first_ones limits.fields (filled limits.squeezes (map (first_ones limits.bytes) fs))

-- the fields that these columns read are among the first ones
abbrev pub ReadsWithin : Columns → Option ℕ → Type 0
ReadsWithin columns None = ⊤
ReadsWithin None (Some n) = 2 < n
ReadsWithin (Some at) (Some n) = All (λ i. i < n) at.0 × IfSome at.1 (λ i. i < n)

-- of a record that was read so far the fields fs have ended, and the field at hand has the bytes f
abbrev pub Holds : Limits → LongRecord → Fields → List ℕ → Type 0
Holds limits rec fs f =
    (fields_of rec.row ≡ kept_of limits fs) × (partial_of rec.row ≡ [])
    × (rec.field.items ≡ first_ones limits.bytes f)

-- a record takes these bytes, the last of which may have ended it
abbrev pub IsFed : Config → Limits → LongRecord → List ℕ → LongRecord → Bool → Type 0
IsFed config limits old xs new ended =
    (fs : Fields) (f : List ℕ) → Holds limits old fs f
    → (gs : Fields) × (g : List ℕ) × Holds limits new gs g
    × Feeds config (state_of old.spot) fs f xs (state_of new.spot) gs g ended

-- nothing was read yet
abbrev pub IsFresh : LongRecord → Type 0
IsFresh rec = (fields_of rec.row ≡ []) × (partial_of rec.row ≡ []) × (rec.field.items ≡ []) × (rec.spot ≡ spot.Record)

-- where all bytes of a text are known that are left before and after, a record of it was found and this
-- is kept of it, and the others are left; or none was left
abbrev pub LeavesRecords : Config → Limits → Option (List ℕ) → Option (List ℕ) → Bool → Fields → Type 0
LeavesRecords config limits None after found row = ⊤
LeavesRecords config limits (Some xs) None found row = ⊥
LeavesRecords config limits (Some xs) (Some ys) true row =
    (fs : Fields) × (row ≡ kept_of limits fs)
    × (records config (strip_bom xs) ≡ fs ∷ records config (strip_bom ys))
LeavesRecords config limits (Some xs) (Some ys) false row =
    (records config (strip_bom xs) ≡ []) × (records config (strip_bom ys) ≡ [])

-- where all bytes are known that are left before and after, the text ends outside quotes where what is
-- left after does
abbrev pub LeavesOutside : Config → Option (List ℕ) → Option (List ℕ) → Type 0
LeavesOutside config None after = ⊤
LeavesOutside config (Some xs) None = ⊥
LeavesOutside config (Some xs) (Some ys) = ends_outside config ys ≡ true → ends_outside config xs ≡ true

-- how reading may fail, whatever the records are
abbrev pub StopsReading : TextError → Type 0
StopsReading text.ReadFault = ⊤
StopsReading text.NoColumn = ⊥
StopsReading (text.BadRecord n c) = ⊥
StopsReading text.Memory = ⊤
