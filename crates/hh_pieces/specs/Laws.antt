-- What holds of texts in pieces.
use Rattle.std.specs.Prelude.{◌≡◌, ◌≤◌, ℕ, Bool, List, map, true, Ok, Some}
use Rattle.std.specs.List.{AllByRecursion, flat_map}
use Rattle.csv.specs.Reading.{records, strip_bom}
use Rattle.csv.specs.declared.parser.Config.{Config}
use Rattle.hh_stream.specs.Weights.{Entry, max_total, total_of}
use Rattle.hh_stream.specs.Cuttings.{whole_of}
use Rattle.hh_records.specs.Layouts.{configured, stream_with}
use Rattle.hh_pieces.specs.Lines.{IsUnquoted, is_separator, split_rows}
use Rattle.hh_pieces.specs.Pieces.{AreCut, InPieces, IsInPieces, LaterBeginWithFeed, all_pieces, ends_outside, piece_reading, text_of}
use Rattle.hh_records.specs.declared.layout.Layout.{Layout}

-- the records of pieces, one after the other, are those of the first piece, then those of the second,
-- and so on, where a text may be cut between them
abbrev pub PiecesHaveTheRecords : Type 0
PiecesHaveTheRecords =
    (quoting : Bool) (d : ℕ) (pieces : List (List ℕ)) → AreCut (configured quoting d) pieces
    → records (configured quoting d) (strip_bom (whole_of pieces))
    ≡ flat_map (λ piece. records (configured quoting d) (strip_bom piece)) pieces

-- a text may be cut between pieces that begin with line feeds, all but the first, and that end outside
-- quotes
abbrev pub FeedsOutsideQuotesAreCuts : Type 0
FeedsOutsideQuotesAreCuts =
    (config : Config) (pieces : List (List ℕ)) → LaterBeginWithFeed pieces
    → AllByRecursion (λ piece. ends_outside config piece ≡ true) pieces → AreCut config pieces

-- texts in pieces, each of which by itself reads as some items, read as these items, one piece after
-- the other, where their total fits
abbrev pub PiecesAreRead : Type 0
PiecesAreRead =
    (layout : Layout) (texts : List InPieces) (parts : List (List Entry))
    → AllByRecursion (IsInPieces layout) texts
    → map (λ piece. piece_reading layout piece.0 piece.1) (all_pieces texts) ≡ map (λ part. Some (Ok part)) parts
    → total_of (whole_of parts) ≤ max_total
    → stream_with layout (map text_of texts) ≡ Some (Ok (whole_of parts))

-- the records of a text without quotes, or of one where a quote is a byte as any other, are its lines,
-- but for blank ones, and their fields are what stands between separators
abbrev pub UnquotedTextsAreSplit : Type 0
UnquotedTextsAreSplit =
    (quoting : Bool) (d : ℕ) (text : List ℕ) → is_separator d ≡ true → (quoting ≡ true → IsUnquoted text)
    → records (configured quoting d) text ≡ split_rows d text
