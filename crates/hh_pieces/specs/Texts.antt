-- Texts whose records are read in turn.
use Rattle.std.specs.Prelude.{◌≡◌, ◌+◌, ℕ, List, [], ◌∷◌, ◌++◌, length, Option, Some, None, Ok, IfSome, option_map, ⊤}
use Rattle.std.specs.Io.KnownBytes.{prepend_known}
use Rattle.hh_stream.specs.Weights.{Entry}
use Rattle.hh_records.specs.Layouts.{Columns, every, gathered, items_after, text_parts, texts_known, texts_parts}
use Rattle.hh_records.specs.Streams.{Known, Parts}
use Rattle.hh_records.specs.declared.layout.Layout.{Layout}
use Rattle.hh_pieces.specs.Pieces.{parts_in}
use Rattle.hh_pieces.specs.Windows.{held_in}
use Rattle.hh_pieces.specs.declared.texts.OpenText.{OpenText}
use Rattle.hh_pieces.specs.declared.texts.Records.{Records}

-- the bytes that an open text has left
abbrev pub bytes_left : {R : Type 0} → (R → Option (List ℕ)) → OpenText R → Option (List ℕ)
bytes_left remaining text = prepend_known (held_in text.window) (remaining text.reader)

-- the records that it has left, where its bytes are known
abbrev pub parts_left : {R : Type 0} → (R → Option (List ℕ)) → Layout → OpenText R → Option (List Parts)
parts_left remaining layout text = option_map (parts_in layout text.columns) (bytes_left remaining text)

-- where all bytes are known, the first records of some of them add these items after a total of t and
-- the records before, with which there are after of them, and these bytes are left
abbrev pub LeavesBytes : Layout → Columns → ℕ → ℕ → Option (List ℕ) → List Entry → ℕ → Option (List ℕ) → Type 0
LeavesBytes layout at before t None xs after left = ⊤
LeavesBytes layout at before t (Some bytes) xs after None = ⊥
LeavesBytes layout at before t (Some bytes) xs after (Some left) =
    (ps : List Parts) × (parts_in layout at bytes ≡ ps ++ parts_in layout at left)
    × (items_after layout (before + 1) t ps ≡ Ok xs) × (after ≡ before + length ps)

-- where all bytes are known, these columns are those of a text that reads so, with the bytes that it has left
-- then; or it was to have a header and has no record
abbrev pub Chooses : Layout → Option (List ℕ) → Option Columns → Option (List ℕ) → Type 0
Chooses layout None columns left = ⊤
Chooses layout (Some bytes) columns None = ⊥
Chooses layout (Some bytes) None (Some left) = text_parts layout bytes ≡ Some []
Chooses layout (Some bytes) (Some at) (Some left) = text_parts layout bytes ≡ Some (parts_in layout at left)

-- the records that a text has left, and none where it was to have a header and has no record
abbrev pub text_left : {R : Type 0} → (R → Option (List ℕ)) → Layout → Option (OpenText R) → Option (List Parts)
text_left remaining layout None = Some []
text_left remaining layout (Some text) = parts_left remaining layout text

-- a text that was opened has these records left, where they are known
abbrev pub Opens : {R : Type 0} → (R → Option (List ℕ)) → Layout → Option (Option (List Parts)) → Option (OpenText R) → Type 0
Opens remaining layout parts opened =
    IfSome parts (λ known. (ps : List Parts) × (text_left remaining layout opened ≡ Some ps) × (known ≡ Some ps))

-- the records that open texts have left, one text after the other
abbrev pub all_left : {R : Type 0} → (R → Option (List ℕ)) → Layout → List (OpenText R) → Option (List Parts)
all_left remaining layout texts = gathered (parts_left remaining layout) texts

-- open texts have these records more left, where they are known
abbrev pub OpensAs : {R : Type 0} → (R → Option (List ℕ)) → Layout → Option (Option (List Parts)) → List (OpenText R) → List (OpenText R) → Type 0
OpensAs remaining layout parts old new =
    IfSome parts (λ known. (ps : List Parts) × (known ≡ Some ps)
    × ((before : List Parts) → all_left remaining layout old ≡ Some before
    → all_left remaining layout new ≡ Some (before ++ ps)))

-- the texts of readers are open: they have their records left, where these are known
abbrev pub AllOpen : {R : Type 0} → (R → Option (List ℕ)) → Layout → List R → List (OpenText R) → Type 0
AllOpen remaining layout readers texts =
    IfSome (every remaining readers) (λ bytes. (ps : List Parts)
    × (all_left remaining layout texts ≡ Some ps) × (texts_parts layout bytes ≡ Some ps))

-- what is known of records that are to be read
abbrev pub records_known : {R : Type 0} → (R → Option (List ℕ)) → Records R → Known
records_known remaining records = texts_known remaining records.layout (records.first ∷ records.others.items)
