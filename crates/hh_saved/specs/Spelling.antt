-- The one spelling of each saved summary and table in each version of the format.
use Rattle.std.specs.Prelude.{◌≡◌, ℕ, ◌≤◌, List, ◌++◌, length}
use Rattle.std.specs.List.{flat_map, AllByRecursion}
use Rattle.std.specs.Int.{Width, w8, w16, w32, w64, to_be_bytes}
use Rattle.hh_stream.specs.Weights.{Bytes, Entry, IsKey, max_key_len}
use Rattle.hh_summaries.specs.Counters.{SummaryView, Fits}
use Rattle.hh_countmin.specs.Family.{IsFamily}
use Rattle.hh_countmin.specs.Table.{TableView, FitsTable}
use Rattle.hh_saved.specs.declared.format.Version.{Version}
use Rattle.hh_saved.specs.declared.format.Version.TheVariants.{One, Two}
use Rattle.hh_saved.specs.declared.saved.Saved.{Saved}
use Rattle.hh_saved.specs.declared.saved.Saved.TheVariants.{Counters, Cells}

-- ---- what differs between the versions

-- the four bytes "HHS1" or "HHS2" as a number
abbrev pub magic_of : Version → ℕ
magic_of One = 0x48485331
magic_of Two = 0x48485332

-- how many bytes the length of a key has
abbrev pub len_width : Version → Width
len_width One = w8
len_width Two = w16

-- the most bytes of a key
abbrev pub max_len : Version → ℕ
max_len One = 255
max_len Two = max_key_len

-- a key that the version can spell
pub record IsSavedKey (version : Version) (x : Bytes) : Type 0 where
  pub key : IsKey x
  pub few : length x ≤ max_len version

-- ---- the fields of a file

-- a length, the key's bytes and the counter
abbrev pub entry_bytes : Version → Entry → List ℕ
entry_bytes version e = to_be_bytes (len_width version) (length e.0) ++ (e.0 ++ to_be_bytes w64 e.1)

-- k, the total, the number of counters, and the entries
abbrev pub sketch_bytes : Version → SummaryView → List ℕ
sketch_bytes version s =
    to_be_bytes w16 s.k
    ++ (to_be_bytes w64 s.total ++ (to_be_bytes w16 (length s.counters) ++ flat_map (entry_bytes version) s.counters))

-- the coefficients of a row
abbrev pub pair_bytes : ℕ × ℕ → List ℕ
pair_bytes row = to_be_bytes w64 row.0 ++ to_be_bytes w64 row.1

-- the cells, one after the other
abbrev pub cells_bytes : List ℕ → List ℕ
cells_bytes cells = flat_map (to_be_bytes w64) cells

-- width, depth, z, the rows' coefficients, the total, and the cells
abbrev pub grid_bytes : TableView → List ℕ
grid_bytes t =
    to_be_bytes w32 t.width
    ++ (to_be_bytes w8 (length t.family.rows)
    ++ (to_be_bytes w64 t.family.z
    ++ (flat_map pair_bytes t.family.rows ++ (to_be_bytes w64 t.total ++ cells_bytes t.cells))))

-- the number of the kind
abbrev pub kind_of : Saved → ℕ
kind_of (Counters s) = 1
kind_of (Cells t) = 2

-- what follows the kind
abbrev pub content_bytes : Version → Saved → List ℕ
content_bytes version (Counters s) = sketch_bytes version s
content_bytes version (Cells t) = grid_bytes t

-- magic, kind and what follows
abbrev pub spelling_of : Version → Saved → List ℕ
spelling_of version v = to_be_bytes w32 (magic_of version) ++ (to_be_bytes w8 (kind_of v) ++ content_bytes version v)

-- what a value keeps that the version can spell
abbrev pub IsSaved : Version → Saved → Type 0
IsSaved version (Counters s) =
    Fits s.k s.total s.counters × AllByRecursion (λ e. IsSavedKey version e.0) s.counters
IsSaved version (Cells t) = IsFamily t.family × FitsTable t.family t.width t.total t.cells

-- the bytes are the version's spelling of the value
pub record Spells (version : Version) (bytes : List ℕ) (v : Saved) : Type 0 where
  pub saved : IsSaved version v
  pub spelled : bytes ≡ spelling_of version v
