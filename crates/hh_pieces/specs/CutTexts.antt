-- Texts of records in pieces, each of which is read by itself.
use Rattle.std.specs.Prelude.{◌≡◌, ◌-◌, ◌≤◌, ◌++◌, ℕ, List, [], length, map, replicate, Option, Some, None, Ok, Err, if◌then◌else◌}
use Rattle.hh_stream.specs.Cuttings.{whole_of}
use Rattle.hh_stream.specs.Weights.{Entry, max_total, total_of}
use Rattle.hh_records.specs.Layouts.{Columns, config_of, stream_with}
use Rattle.hh_pieces.specs.Pieces.{InPieces, LaterBeginWithFeed, ends_outside, first_piece, piece_reading}
use Rattle.hh_records.specs.Layouts.{columns_of, rows_in}
use Rattle.hh_records.specs.Streams.{Reading}
use Rattle.hh_stream.specs.declared.taking.PieceFault.{PieceFault}
use Rattle.hh_stream.specs.declared.taking.PieceFault.TheVariants as fault
use Rattle.hh_records.specs.declared.layout.Layout.{Layout}
use Rattle.hh_faults.specs.declared.records.TextError.{TextError}
use Rattle.hh_faults.specs.declared.records.TextError.TheVariants as text

-- a piece's bytes, and the columns that it is read by
abbrev pub Piece : Type 0
Piece = Option Columns × List ℕ

-- why a piece was not read, by what refused it
abbrev pub piece_fault : TextError → PieceFault
piece_fault text.ReadFault = fault.Refused
piece_fault text.NoColumn = fault.Refused
piece_fault (text.BadRecord n c) = fault.Refused
piece_fault text.Memory = fault.Memory

-- the items of a reading, where nothing was refused
abbrev pub items_of : Option Reading → Option (List Entry)
items_of None = None
items_of (Some (Err e)) = None
items_of (Some (Ok xs)) = Some xs

-- the items of a piece that ends outside quotes, where none of its records is refused
abbrev pub piece_items : Layout → Piece → Option (List Entry)
piece_items layout piece =
    if ends_outside (config_of layout) piece.1 then items_of (piece_reading layout piece.0 piece.1) else None

-- these and, after them, pieces of no items, `count` in all
abbrev pub padded : ℕ → List (Option (List Entry)) → List (Option (List Entry))
padded count pieces = pieces ++ replicate (count - length pieces) (Some [])

-- where each of these pieces has items, the texts read as them, one piece after the other
abbrev pub AreReadByPieces : Layout → List (List ℕ) → List (Option (List Entry)) → Type 0
AreReadByPieces layout texts pieces =
    (parts : List (List Entry)) → pieces ≡ map Some parts → total_of (whole_of parts) ≤ max_total
    → stream_with layout texts ≡ Some (Ok (whole_of parts))

-- a text begins with a piece that chooses its columns, and each later one begins with a line feed
pub record Begins (layout : Layout) (t : InPieces) : Type 0 where
  pub feeds : LaterBeginWithFeed t.pieces
  pub columns : columns_of layout (rows_in layout (first_piece t.pieces)) ≡ Some t.columns
