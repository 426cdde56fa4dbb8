-- What holds of texts and of keys.
use Rattle.std.specs.Prelude.{◌≡◌, ◌==◌, ◌<◌, ◌≤◌, ℕ, List, [], ◌∷◌, length, EachIndex, Ok, Some, slice_index}
use Rattle.hh_stream.specs.Weights.{AreItems, Entry, max_total, total_of}
use Rattle.hh_records.specs.Decimals.{pointed, units_of}
use Rattle.hh_records.specs.Layouts.{IsPlain, key_of, stream_with}
use Rattle.hh_records.specs.Streams.{Fields, stream_of}
use Rattle.hh_records.specs.declared.layout.Layout.{Layout}

-- what a text of bytes reads as has keys and weights, and a total in range
abbrev pub TextsAreItems : Type 0
TextsAreItems =
    (text : List ℕ) (xs : List Entry) → EachIndex text (λ i. slice_index text i < 256) → stream_of text ≡ Ok xs
    → AreItems xs × (total_of xs ≤ max_total)

-- a layout that names nothing, of fields between commas and with no header, reads a text as its stream
abbrev pub PlainLayoutsReadStreams : Type 0
PlainLayoutsReadStreams =
    (layout : Layout) (text : List ℕ) → IsPlain layout → stream_with layout (text ∷ []) ≡ Some (stream_of text)

-- a number that is printed with digits after a point is read as itself, in units of as many digits
abbrev pub PrintedNumbersAreRead : Type 0
PrintedNumbersAreRead = (d n : ℕ) → n ≤ max_total → units_of d (Some (pointed d n)) ≡ Some n

-- fields that are one key are the same fields, where either is one field or both are several
abbrev pub KeysTellFields : Type 0
KeysTellFields =
    (fs gs : Fields) → (length fs ≡ 0 → ⊥) → (length gs ≡ 0 → ⊥) → (length fs == 1) ≡ (length gs == 1)
    → key_of fs ≡ key_of gs → fs ≡ gs
