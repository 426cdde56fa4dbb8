-- Texts of records in files, in pieces each of which is read by itself.
use Rattle.std.specs.Prelude.{◌≡◌, ◌++◌, ℕ, List, [], get_or, map, Option}
use Rattle.hh_stream.specs.Cuttings.{whole_of}
use Rattle.hh_stream.specs.Weights.{Entry}
use Rattle.hh_pieces.specs.CutTexts.{Begins, Piece}
use Rattle.hh_pieces.specs.Files.{bytes_between}
use Rattle.hh_pieces.specs.Pieces.{InPieces, LaterBeginWithFeed, text_of, with_columns}
use Rattle.hh_pieces.specs.declared.cut_files.FilePiece.{FilePiece}
use Rattle.hh_pieces.specs.declared.cut_files.Span.{Span}
use Rattle.hh_records.specs.declared.layout.Layout.{Layout}

-- the pieces of files: how many there are and, where all bytes are known, what each is: its items, or
-- nothing of a piece that can't be read by itself
pub record FilePieces : Type 0 where
  pub count : ℕ
  pub pieces : Option (List (Option (List Entry)))

abbrev pub span_bytes : List ℕ → Span → List ℕ
span_bytes bytes span = bytes_between span.from span.to bytes

-- a piece of texts, each the bytes of a file
abbrev pub file_piece : List (List ℕ) → FilePiece → Piece
file_piece texts piece = (piece.columns, span_bytes (get_or texts piece.source []) piece.span)

-- bytes are cut into spans, before line feeds
pub record CutsBytes (bytes : List ℕ) (spans : List Span) : Type 0 where
  pub whole : whole_of (map (span_bytes bytes) spans) ≡ bytes
  pub feeds : LaterBeginWithFeed (map (span_bytes bytes) spans)

-- the pieces of the file with this number, whose bytes are this text, are added to others
pub record AddsSpans (layout : Layout) (number : ℕ) (text : List ℕ) (old new : List FilePiece) : Type 0 where
  pub t : InPieces
  pub begins : Begins layout t
  pub is : text_of t ≡ text
  pub added : (texts : List (List ℕ)) → get_or texts number [] ≡ text
      → map (file_piece texts) new ≡ map (file_piece texts) old ++ with_columns t.columns t.pieces
