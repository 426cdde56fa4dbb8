-- Texts of records in pieces, which are cut before line feeds.
use Rattle.std.specs.Prelude.{◌≡◌, ◌+◌, ◌==◌, ◌&&◌, ◌<◌, ◌≤◌, ℕ, Bool, true, false, List, [], ◌∷◌, fold, length, map, take, drop, not, Option, Some, None, option_map, Ok, ⊤}
use Rattle.std.specs.List.{AllByRecursion, flat_map}
use Rattle.csv.specs.Machine.{line_feed, step}
use Rattle.csv.specs.Reading.{strip_bom}
use Rattle.csv.specs.Writing.{comma}
use Rattle.csv.specs.declared.parser.Config.{Config}
use Rattle.csv.specs.declared.parser.State.{State}
use Rattle.csv.specs.declared.parser.State.TheVariants as st
use Rattle.hh_stream.specs.Cuttings.{whole_of}
use Rattle.hh_stream.specs.Weights.{Entry}
use Rattle.hh_records.specs.Formats.{byte_between, has_quotes}
use Rattle.hh_records.specs.Layouts.{Columns, columns_of, config_of, configured, delimited, items_after, parts_at, rows_in, text_parts}
use Rattle.hh_records.specs.Streams.{Parts, Reading}
use Rattle.hh_records.specs.declared.format.Format.{Format}
use Rattle.hh_records.specs.declared.layout.Layout.{Layout}

-- ---- where a text may be cut
-- the state of csv's machine after these bytes
abbrev pub state_after : Config → State → List ℕ → State
state_after config s bytes = fold (λ s c. (step config s c).0) s bytes

-- whether a line feed ends a record in this state, or is skipped between two
abbrev pub is_outside : State → Bool
is_outside st.StartRecord = true
is_outside st.StartField = true
is_outside st.InField = true
is_outside st.AfterQuote = true
is_outside st.AfterCr = true
is_outside st.InQuoted = false
is_outside st.InEscape = false
is_outside st.InComment = false

-- how csv reads records of this format, with this byte between their fields
abbrev pub config_by : Format → ℕ → Config
config_by format delimiter = configured (has_quotes format) (byte_between format delimiter)

-- whether a text that csv reads so ends outside quotes, so that a line feed after it ends a record or is
-- skipped; where csv cuts fields at line feeds, one ends a field alone
abbrev pub ends_outside : Config → List ℕ → Bool
ends_outside config bytes =
    not (config.delimiter == line_feed)
    && is_outside (state_after config st.StartRecord (strip_bom bytes))

abbrev pub begins_with_feed : List ℕ → Bool
begins_with_feed [] = false
begins_with_feed (c ∷ rest) = c == line_feed

-- a text of records that csv reads so may be cut between these two parts
pub record IsCut (config : Config) (a b : List ℕ) : Type 0 where
  pub outside : ends_outside config a ≡ true
  pub feed : begins_with_feed b ≡ true

-- a text may be cut at this place
abbrev pub IsCutAt : Config → List ℕ → ℕ → Type 0
IsCutAt config bytes at = IsCut config (take at bytes) (drop at bytes)

-- n bytes of a part of a text, with commas between its fields, are whole records: the text may be
-- cut after them and nowhere further on, or they are none
pub record AreWholeRecords (bytes : List ℕ) (n : ℕ) : Type 0 where
  pub within : n ≤ length bytes
  pub cut : 0 < n → IsCutAt (delimited comma) bytes n
  pub last : (at : ℕ) → n < at → at < length bytes → IsCutAt (delimited comma) bytes at → ⊥

-- a text may be cut between each of these pieces and the next
abbrev pub AreCut : Config → List (List ℕ) → Type 0
AreCut config [] = ⊤
AreCut config (a ∷ []) = ⊤
AreCut config (a ∷ b ∷ rest) = IsCut config a b × AreCut config (b ∷ rest)

-- each piece but the first begins with a line feed
abbrev pub LaterBeginWithFeed : List (List ℕ) → Type 0
LaterBeginWithFeed pieces = AllByRecursion (λ p. begins_with_feed p ≡ true) (drop 1 pieces)

-- ---- what a piece reads as
-- the records of a piece, each as its key and its weight's field: of a later piece by the columns that
-- the first of its text chose, and of the first piece as of a text
abbrev pub piece_parts : Layout → Option Columns → List ℕ → Option (List Parts)
piece_parts layout None bytes = text_parts layout bytes
piece_parts layout (Some at) bytes = Some (map (parts_at layout at) (rows_in layout bytes))

-- what a piece reads as by itself, or nothing where its header lacks a column
abbrev pub piece_reading : Layout → Option Columns → List ℕ → Option Reading
piece_reading layout columns bytes =
    option_map (items_after layout 1 0) (piece_parts layout columns bytes)

-- the records of some bytes, each as its key and its weight's field
abbrev pub parts_in : Layout → Columns → List ℕ → List Parts
parts_in layout at bytes = map (parts_at layout at) (rows_in layout bytes)

-- the records of a piece add these items after a total of t and the records before, with which there
-- are after of them
abbrev pub PieceAdds : Layout → Columns → ℕ → ℕ → List ℕ → List Entry → ℕ → Type 0
PieceAdds layout at before t bytes xs after =
    (items_after layout (before + 1) t (parts_in layout at bytes) ≡ Ok xs)
    × (after ≡ before + length (parts_in layout at bytes))

-- ---- texts in pieces
-- a text in pieces, and the columns that its first piece chooses
pub record InPieces : Type 0 where
  pub pieces : List (List ℕ)
  pub columns : Columns

-- the first piece, or an empty one where there are no pieces
abbrev pub first_piece : List (List ℕ) → List ℕ
first_piece [] = []
first_piece (p ∷ ps) = p

-- a text is cut into pieces, of which the first chooses the columns
pub record IsInPieces (layout : Layout) (t : InPieces) : Type 0 where
  pub cut : AreCut (config_of layout) t.pieces
  pub columns : columns_of layout (rows_in layout (first_piece t.pieces)) ≡ Some t.columns

-- the pieces of a text, each with the columns that it is read by
abbrev pub with_columns : Columns → List (List ℕ) → List (Option Columns × List ℕ)
with_columns at [] = []
with_columns at (p ∷ ps) = (None, p) ∷ map (λ q. (Some at, q)) ps

-- the pieces of all texts, one text after the other
abbrev pub all_pieces : List InPieces → List (Option Columns × List ℕ)
all_pieces texts = flat_map (λ t. with_columns t.columns t.pieces) texts

abbrev pub text_of : InPieces → List ℕ
text_of t = whole_of t.pieces
