-- What pieces of files are for a pass over them.
use Rattle.std.specs.Prelude.{◌+◌, ◌∷◌, ℕ, List, [], map, replicate, Option, Some, None}
use Rattle.hh_stream.specs.Weights.{Entry, max_total}

-- the items of a piece of files, and for one that can't be read by itself more than a total may be
abbrev pub items_or_too_many : Option (List Entry) → List Entry
items_or_too_many None = ([], max_total + 1) ∷ []
items_or_too_many (Some xs) = xs

-- the items of the pieces of files, so that each can be read by itself where they are not too many; where
-- the bytes aren't known, `count` empty lists
abbrev pub lists_of : ℕ → Option (List (Option (List Entry))) → List (List Entry)
lists_of count None = replicate count []
lists_of count (Some pieces) = map items_or_too_many pieces
