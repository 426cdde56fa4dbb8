-- What holds of the definitions.
use Rattle.std.specs.Prelude.{◌≡◌, ◌≤◌, ◌<◌, ◌⊎◌, ℕ, List, [], ◌++◌, length, take, Ok, Err}
use Rattle.std.specs.List.{AllByRecursion}
use Rattle.hh_stream.specs.Weights.{max_key_len}
use Rattle.hh_summaries.specs.Counters.{SummaryView}
use Rattle.hh_countmin.specs.Table.{TableView}
use Rattle.hh_saved.specs.declared.format.Version.{Version}
use Rattle.hh_saved.specs.declared.format.Version.TheVariants.{One, Two}
use Rattle.hh_saved.specs.declared.saved.Saved.{Saved}
use Rattle.hh_saved.specs.declared.saved.Saved.TheVariants.{Counters, Cells}
use Rattle.hh_faults.specs.declared.saved.SavedFault.{SavedFault}
use Rattle.hh_faults.specs.declared.saved.SavedFault.TheVariants as faults
use Rattle.hh_saved.specs.Reading.{saved_of}
use Rattle.hh_saved.specs.Sizes.{most_summary_bytes, table_bytes}
use Rattle.hh_saved.specs.Spelling.{IsSaved, Spells, spelling_of}

-- two values share no spelling, and no spelling is a proper prefix of another, whatever the versions
abbrev pub SpellingsAreUnique : Type 0
SpellingsAreUnique =
    (p q : Version) (v w : Saved) (rest : List ℕ)
    → IsSaved p v → IsSaved q w → spelling_of p v ++ rest ≡ spelling_of q w → (p ≡ q) × (v ≡ w) × (rest ≡ [])

-- what is written is read again
abbrev pub SpellingsAreRead : Type 0
SpellingsAreRead = (version : Version) (v : Saved) → IsSaved version v → saved_of (spelling_of version v) ≡ Ok v

-- two files that are read alike hold one value, whatever their versions; those of one version are then the same
abbrev pub FilesReadAlikeHoldOneValue : Type 0
FilesReadAlikeHoldOneValue =
    (p q : Version) (b c : List ℕ) (v w : Saved)
    → Spells p b v → Spells q c w → saved_of b ≡ saved_of c → (v ≡ w) × (p ≡ q → b ≡ c)

-- what version 1 can spell, version 2 can
abbrev pub VersionTwoSpellsVersionOne : Type 0
VersionTwoSpellsVersionOne = (v : Saved) → IsSaved One v → IsSaved Two v

-- a text that is cut short, and so is each beginning of it
abbrev pub IsCutShort : List ℕ → SavedFault → Type 0
IsCutShort bytes fault = (fault ≡ faults.Truncated) × ((m : ℕ) → saved_of (take m bytes) ≡ Err faults.Truncated)

-- the first n bytes of a text decide its fault: each text that begins with them has it, and one of which fewer are left is
-- cut short
pub record IsDecidedBy (bytes : List ℕ) (fault : SavedFault) (n : ℕ) : Type 0 where
  pub within : n ≤ length bytes
  pub before : (m : ℕ) → m < n → saved_of (take m bytes) ≡ Err faults.Truncated
  pub after : (other : List ℕ) → take n other ≡ take n bytes → saved_of other ≡ Err fault

-- bytes follow those that spell a value
abbrev pub IsFollowed : List ℕ → SavedFault → Type 0
IsFollowed bytes fault =
    (fault ≡ faults.Trailing) × (n : ℕ) × (v : Saved) × (n < length bytes) × (saved_of (take n bytes) ≡ Ok v)

-- the fault of a text is that of its first field from the left that is short or fails: nothing behind that field counts, and
-- without its end the text is cut short. Where no field does, bytes follow
abbrev pub FaultsAreFirst : Type 0
FaultsAreFirst =
    (bytes : List ℕ) (fault : SavedFault) → saved_of bytes ≡ Err fault
    → IsCutShort bytes fault ⊎ (((n : ℕ) × IsDecidedBy bytes fault n) ⊎ IsFollowed bytes fault)

-- a summary has a head of 17 bytes and for each of at most k counters its key's bytes and 10 more
abbrev pub SummariesAreBounded : Type 0
SummariesAreBounded =
    (bytes : List ℕ) (s : SummaryView) (m : ℕ)
    → Spells Two bytes (Counters s) → AllByRecursion (λ e. length e.0 ≤ m) s.counters
    → length bytes ≤ most_summary_bytes s.k m

-- k alone bounds a summary, since keys are bounded
abbrev pub SummariesAreBoundedByK : Type 0
SummariesAreBoundedByK =
    (bytes : List ℕ) (s : SummaryView)
    → Spells Two bytes (Counters s) → length bytes ≤ most_summary_bytes s.k max_key_len

-- rows and width decide how many bytes a table has
abbrev pub TablesHaveOneSize : Type 0
TablesHaveOneSize =
    (version : Version) (bytes : List ℕ) (t : TableView)
    → Spells version bytes (Cells t) → length bytes ≡ table_bytes t.width (length t.family.rows)
