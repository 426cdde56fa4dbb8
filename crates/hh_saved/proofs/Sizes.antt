-- How many bytes saved values have.
use Rattle.std.proofs.Common.{◌≡◌, ℕ, ◌+◌, ◌*◌, ◌≤◌, ◌∙◌, List, [], ◌∷◌, ◌++◌, length, ap, arith}
use Rattle.std.specs.List.{flat_map, AllByRecursion}
use Rattle.std.specs.Int.{w64, byte_len, to_be_bytes}
use Rattle.std.proofs.lemmas.List.{length-append}
use Rattle.std.proofs.lemmas.List.Concat.{flat_map-cons}
use Rattle.std.proofs.Math.Nat.{mul-le-mul_right, suc-mul}
use Rattle.hh_stream.specs.Weights.{Entry, max_key_len}
use Rattle.hh_summaries.specs.Counters.{SummaryView}
use Rattle.hh_countmin.specs.Table.{TableView}
use Rattle.hh_saved.specs.declared.format.Version.{Version}
use Rattle.hh_saved.specs.declared.format.Version.TheVariants.{Two}
use Rattle.hh_saved.specs.declared.saved.Saved.TheVariants.{Counters, Cells}
use Rattle.hh_saved.specs.Spelling.{IsSavedKey, Spells, cells_bytes, entry_bytes, len_width, pair_bytes}
use Rattle.hh_saved.specs.Sizes.{most_summary_bytes, table_bytes}
use Rattle.hh_saved.proofs.Blocks.{length-flat_map}
use Rattle.hh_saved.proofs.Families.{pair_code}
use Rattle.hh_saved.proofs.Fields.{wide64, wide_len}
use Rattle.hh_saved.proofs.Grids.{cell_code}

-- an entry is its key's length, the key and its counter
pub entry-length : (version : Version) (e : Entry)
    → length (entry_bytes version e) ≡ byte_len (len_width version) + (length e.0 + 8)
entry-length version e =
    let counter = to_be_bytes w64 e.1 in
    let whole = length-append (to_be_bytes (len_width version) (length e.0)) (e.0 ++ counter) in
    let key = length-append e.0 counter in
    let eight : length counter ≡ 8 = wide64.len e.1 in
    omega (arith, whole, key, eight, (wide_len version).len (length e.0))

-- in version 2 entries have the bytes of their keys, and 10 more each
entries-length : (m : ℕ) (es : List Entry) → AllByRecursion (λ e. length e.0 ≤ m) es
    → length (flat_map (entry_bytes Two) es) ≤ length es * (m + 10)
entries-length m [] few = omega arith
entries-length m (e ∷ es) few =
    let others = flat_map (entry_bytes Two) es in
    let parts : length (flat_map (entry_bytes Two) (e ∷ es)) ≡ length (entry_bytes Two e) + length others =
    ap length (flat_map-cons (entry_bytes Two) e es) ∙ length-append (entry_bytes Two e) others in
    let one : length (entry_bytes Two e) ≡ 2 + (length e.0 + 8) = entry-length Two e in
    let short : length e.0 ≤ m = few.0 in
    omega (arith, parts, one, short, entries-length m es few.1, suc-mul (length es) (m + 10))

-- a summary's bytes, by its longest key
pub bounded : (bytes : List ℕ) (s : SummaryView) (m : ℕ) → Spells Two bytes (Counters s)
    → AllByRecursion (λ e. length e.0 ≤ m) s.counters → length bytes ≤ most_summary_bytes s.k m
bounded bytes s m is few =
    let whole : length bytes ≡ 17 + length (flat_map (entry_bytes Two) s.counters) =
    omega (arith, ap length is.spelled) in
    let most : length s.counters * (m + 10) ≤ s.k * (m + 10) = mul-le-mul_right (m + 10) is.saved.0.few in
    omega (arith, whole, entries-length m s.counters few, most)

-- keys are bounded
short_keys : (es : List Entry) → AllByRecursion (λ e. IsSavedKey Two e.0) es
    → AllByRecursion (λ e. length e.0 ≤ max_key_len) es
short_keys [] are = tt
short_keys (e ∷ es) are = (are.0.few, short_keys es are.1)

-- a summary's bytes, by k alone
pub bounded_by_k : (bytes : List ℕ) (s : SummaryView) → Spells Two bytes (Counters s)
    → length bytes ≤ most_summary_bytes s.k max_key_len
bounded_by_k bytes s is = bounded bytes s max_key_len is (short_keys s.counters is.saved.1)

-- a table's bytes, by its rows and their width
pub one_size : (version : Version) (bytes : List ℕ) (t : TableView) → Spells version bytes (Cells t)
    → length bytes ≡ table_bytes t.width (length t.family.rows)
one_size version bytes t is =
    let rows = flat_map pair_bytes t.family.rows in
    let cells = cells_bytes t.cells in
    let whole : length bytes ≡ 18 + length (rows ++ (to_be_bytes w64 t.total ++ cells)) =
    omega (arith, ap length is.spelled) in
    omega (
      arith,
      whole,
      length-append rows (to_be_bytes w64 t.total ++ cells),
      length-flat_map _ _ _ _ pair_code t.family.rows,
      length-flat_map _ _ _ _ cell_code t.cells,
      is.saved.1.all_cells,
    )
