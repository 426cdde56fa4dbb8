-- What passes go over.
use Rattle.std.specs.Prelude.{◌⊎◌, ℕ, ◌<◌, List, [], length, slice_index_or}
use Rattle.std.specs.List.{flat_map}
use Rattle.hh_stream.specs.Cuttings.{whole_of}
use Rattle.hh_stream.specs.Weights.{Entry, max_total, total_of}

-- the items of piece i
abbrev pub piece_of : List (List Entry) → ℕ → List Entry
piece_of pieces i = slice_index_or pieces i []

-- the items of the pieces with these numbers, one piece after the other
abbrev pub items_at : List (List Entry) → List ℕ → List Entry
items_at pieces numbers = flat_map (piece_of pieces) numbers

-- what is known where pieces were refused: one of them was, or the weights of all add up to more than a total may be
abbrev pub MayRefuse : (ℕ → Type 0) → List (List Entry) → Type 0
MayRefuse refuses pieces =
    ((i : ℕ) × (i < length pieces) × refuses i) ⊎ (max_total < total_of (whole_of pieces))
