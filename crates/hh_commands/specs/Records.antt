-- What the commands that read records share.
use Rattle.std.specs.Prelude.{◌≡◌, ◌<◌, ℕ, List, All, Ok}
use Rattle.hh_stream.specs.Weights.{Bytes, Entry}
use Rattle.hh_counters.specs.Counting.{Count, count_of}
use Rattle.hh_saved.specs.Spelling.{Spells}
use Rattle.hh_saved.specs.declared.format.Version.TheVariants as version
use Rattle.hh_saved.specs.declared.saved.Saved.{Saved}
use Rattle.hh_records.specs.Streams.{Known, ReadsAs}

-- the items have weights, and their count for these keys is this
abbrev pub IsCountOf : List Bytes → List Entry → Count → Type 0
IsCountOf ks xs c = All (λ (e : Entry). 0 < e.1) xs × (c ≡ count_of ks xs)

-- the records read as items, whose count for these keys is this
abbrev pub CountsRecords : Known → List Bytes → Count → Type 0
CountsRecords known ks c = (xs : List Entry) × ReadsAs known (Ok xs) × IsCountOf ks xs c

-- the bytes are the spelling in version 2 of what f makes of the stream that the
-- records are
abbrev pub SavesStream : (List Entry → Saved) → Known → List ℕ → Type 0
SavesStream f known bytes = (xs : List Entry) × ReadsAs known (Ok xs) × Spells version.Two bytes (f xs)
