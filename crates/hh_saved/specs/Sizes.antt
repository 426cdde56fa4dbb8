-- How many bytes a saved value has, and where they lie.
use Rattle.std.specs.Prelude.{ℕ, ◌+◌, ◌*◌, ◌≤◌, List, length, take, drop}
use Rattle.hh_stream.specs.Weights.{Entry}
use Rattle.hh_saved.specs.declared.offsets.Place.{Place}

-- the most bytes of a summary of k counters in version 2, whose keys have at most m bytes
abbrev pub most_summary_bytes : ℕ → ℕ → ℕ
most_summary_bytes k m = 17 + k * (m + 10)

-- the bytes of a table, in each version
abbrev pub table_bytes : ℕ → ℕ → ℕ
table_bytes width depth = 26 + 16 * depth + 8 * (depth * width)

-- the place lies within a file
abbrev pub LiesIn : List ℕ → Place → Type 0
LiesIn file place = place.start + place.len ≤ length file

-- the entry whose key lies at this place of a file
abbrev pub entry_in : List ℕ → Place → Entry
entry_in file place = (take place.len (drop place.start file), place.counter)
