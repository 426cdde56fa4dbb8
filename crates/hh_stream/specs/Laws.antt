-- What holds of the definitions.
use Rattle.std.specs.Prelude.{◌≡◌, ℕ, List, length, map, sum}
use Rattle.hh_stream.specs.Weights.{Entry}
use Rattle.hh_stream.specs.Cuttings.{pieces_of, whole_of}

-- where the lengths are those of a cutting of a list, its pieces have these lengths
abbrev pub PiecesHaveTheirLengths : Type 0
PiecesHaveTheirLengths =
    (lengths : List ℕ) (xs : List Entry) → sum lengths ≡ length xs → map length (pieces_of lengths xs) ≡ lengths

-- and one after the other they are the list
abbrev pub PiecesMakeTheWhole : Type 0
PiecesMakeTheWhole =
    (lengths : List ℕ) (xs : List Entry) → sum lengths ≡ length xs → whole_of (pieces_of lengths xs) ≡ xs
