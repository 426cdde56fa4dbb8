-- Reading from left to right, field by field, with the first fault that is met.
use Rattle.std.specs.Prelude.{◌≡◌, ℕ, zero, suc, ◌+◌, ◌*◌, ◌-◌, ◌^◌, Bool, ◌&&◌, List, [], ◌∷◌, ◌++◌, length, take, drop, sum, Option, Result, Ok, Err, ⊤, nat_lt, nat_le, slice_index_or, ◌==◌, if◌then◌else◌}
use Rattle.std.specs.List.{list_all}
use Rattle.std.specs.Result.{result_err}
use Rattle.std.specs.Int.{Width, w8, w16, w32, w64, byte_len, from_be_bytes}
use Rattle.std.specs.Ordering.{is_lt}
use Rattle.hh_stream.specs.Weights.{Bytes, Entry, key_cmp}
use Rattle.hh_stream.specs.Ranges.{in_range}
use Rattle.hh_summaries.specs.Counters.{SummaryView}
use Rattle.hh_countmin.specs.Family.{Coefficients, max_depth, max_width, modulus}
use Rattle.hh_countmin.specs.Table.{TableView}
use Rattle.hh_saved.specs.declared.format.Version.{Version}
use Rattle.hh_saved.specs.declared.format.Version.TheVariants.{One, Two}
use Rattle.hh_saved.specs.declared.saved.Saved.{Saved}
use Rattle.hh_saved.specs.declared.saved.Saved.TheVariants.{Counters, Cells}
use Rattle.hh_faults.specs.declared.saved.SavedFault.{SavedFault}
use Rattle.hh_faults.specs.declared.saved.SavedFault.TheVariants as faults
use Rattle.hh_saved.specs.Spelling.{magic_of, len_width, max_len}

infixl 10 ◌>>=◌
abbrev pub ◌>>=◌ : {A B : Type 0} → Result A SavedFault → (A → Result B SavedFault) → Result B SavedFault
(Ok x) >>= f = f x
(Err e) >>= f = Err e

-- a refusal is the one that is defined, unless memory ran out
abbrev pub Refuses : {Y : Type 0} → Result Y SavedFault → SavedFault → Type 0
Refuses defined faults.Memory = ⊤
Refuses defined fault = defined ≡ Err fault

-- what a function returned, seen by view, is what reading gives, unless memory ran out
abbrev pub Gives : {X Y : Type 0} → (X → Y) → Result X SavedFault → Result Y SavedFault → Type 0
Gives view (Ok x) read = read ≡ Ok (view x)
Gives view (Err e) read = Refuses read e

-- what a function that takes no memory returned, seen by view, is what reading gives
abbrev pub Reads : {X Y : Type 0} → (X → Y) → Result X SavedFault → Result Y SavedFault → Type 0
Reads view (Ok x) read = read ≡ Ok (view x)
Reads view (Err e) read = read ≡ Err e

-- where reading the head fails, so did the function, with the same fault
abbrev pub StopsAt : {X Y : Type 0} → Result X SavedFault → Result Y SavedFault → Type 0
StopsAt result (Ok y) = ⊤
StopsAt result (Err e) = result ≡ Err e

-- a number, and the bytes after it
abbrev pub number_at : Width → List ℕ → Result (ℕ × List ℕ) SavedFault
number_at w bytes =
    if nat_lt (length bytes) (byte_len w) then Err faults.Truncated else Ok
    (from_be_bytes w (take (byte_len w) bytes), drop (byte_len w) bytes)

-- a number that passes a test, and the bytes after it
abbrev pub number_where : Width → (ℕ → Bool) → SavedFault → List ℕ → Result (ℕ × List ℕ) SavedFault
number_where w test fault bytes = do
  n ← number_at w bytes
  if test n.0 then Ok n else Err fault

-- the first `len` bytes, and the bytes after them
abbrev pub bytes_at : ℕ → List ℕ → Result (List ℕ × List ℕ) SavedFault
bytes_at len bytes = if nat_lt (length bytes) len then Err faults.Truncated else Ok (take len bytes, drop len bytes)

-- a total is below 2^63
abbrev pub total_at : List ℕ → Result (ℕ × List ℕ) SavedFault
total_at bytes = number_where w64 (λ n. nat_lt n (2 ^ 63)) faults.TotalTooLarge bytes

-- what was read before, and what is still read
abbrev pub with_front : {X : Type 0} → List X → Result (List X × List ℕ) SavedFault
    → Result (List X × List ℕ) SavedFault
with_front front read = read >>= λ x. Ok (front ++ x.0, x.1)

-- ---- a counter summary

-- the key of the last entry, or no bytes
abbrev pub last_key_of : List Entry → Bytes
last_key_of es = (slice_index_or es (length es - 1) ([], 0)).0

-- the length of a key
abbrev pub len_at : Version → List ℕ → Result (ℕ × List ℕ) SavedFault
len_at version bytes =
    number_where (len_width version) (λ n. in_range n (max_len version)) faults.BadKey bytes

-- a key above the one before it; every key is above no bytes
unfoldable pub key_at : Version → Bytes → List ℕ → Result (Bytes × List ℕ) SavedFault
key_at version before bytes = do
  len ← len_at version bytes
  key ← bytes_at len.0 len.1
  if is_lt (key_cmp before key.0) then Ok key else Err faults.KeyOrder

-- a key and its counter, of which so much is left of the total
unfoldable pub entry_at : Version → Bytes → ℕ → List ℕ → Result (Entry × List ℕ) SavedFault
entry_at version before left bytes = do
  key ← key_at version before bytes
  counter ← number_where w64 (λ n. nat_lt 0 n) faults.BadCounter key.1
  if nat_le counter.0 left then Ok ((key.0, counter.0), counter.1) else Err faults.SumTooLarge

-- n entries, each with a key above the one before it and within what is left of the total
unfoldable pub entries_at : Version → ℕ → Bytes → ℕ → List ℕ → Result (List Entry × List ℕ) SavedFault
entries_at version zero before left bytes = Ok ([], bytes)
entries_at version (suc n) before left bytes = do
  first ← entry_at version before left bytes
  others ← entries_at version n first.0.0 (left - first.0.1) first.1
  Ok (first.0 ∷ others.0, others.1)

-- k is at least 1
abbrev pub k_at : List ℕ → Result (ℕ × List ℕ) SavedFault
k_at bytes = number_where w16 (λ n. nat_lt 0 n) faults.BadK bytes

-- how many counters there are, at most k
abbrev pub count_at : ℕ → List ℕ → Result (ℕ × List ℕ) SavedFault
count_at k bytes = number_where w16 (λ n. nat_le n k) faults.BadCount bytes

-- k, the total, how many counters there are, and the entries
unfoldable pub sketch_at : Version → List ℕ → Result (SummaryView × List ℕ) SavedFault
sketch_at version bytes = do
  k ← k_at bytes
  total ← total_at k.1
  count ← count_at k.0 total.1
  entries ← entries_at version count.0 [] total.0 count.1
  Ok (record { k = k.0; total = total.0; counters = entries.0 }, entries.1)

-- ---- a Count-Min table

-- n blocks of `size` bytes
abbrev pub blocks_in : {X : Type 0} → (List ℕ → X) → ℕ → ℕ → List ℕ → List X
blocks_in decode size zero bytes = []
blocks_in decode size (suc n) bytes = decode (take size bytes) ∷ blocks_in decode size n (drop size bytes)

-- the two coefficients that 16 bytes are
abbrev pub pair_of : List ℕ → ℕ × ℕ
pair_of block = (from_be_bytes w64 (take 8 block), from_be_bytes w64 (drop 8 block))

-- the coefficients that the bytes of a family hold
abbrev pub family_in : ℕ → List ℕ → Coefficients
family_in depth bytes =
    record { z = from_be_bytes w64 (take 8 bytes); rows = blocks_in pair_of 16 depth (drop 8 bytes) }

-- the coefficients of a row are in range
abbrev pub is_row : ℕ × ℕ → Bool
is_row row = nat_le 1 row.0 && nat_lt row.0 modulus && nat_lt row.1 modulus

-- the coefficients of a family are in range
abbrev pub has_coefficients : Coefficients → Bool
has_coefficients family = nat_le 1 family.z && nat_lt family.z modulus && list_all is_row family.rows

-- a family whose coefficients are in range
unfoldable pub family_at : ℕ → List ℕ → Result (Coefficients × List ℕ) SavedFault
family_at depth bytes = do
  field ← bytes_at (8 + 16 * depth) bytes
  if has_coefficients (family_in depth field.0) then Ok (family_in depth field.0, field.1)
      else Err faults.BadCoefficient

-- the cells that the bytes of a row hold
abbrev pub cells_in : ℕ → List ℕ → List ℕ
cells_in width bytes = blocks_in (from_be_bytes w64) 8 width bytes

-- a row of cells that add up to the total
unfoldable pub row_at : ℕ → ℕ → List ℕ → Result (List ℕ × List ℕ) SavedFault
row_at width total bytes = do
  field ← bytes_at (8 * width) bytes
  if sum (cells_in width field.0) == total then Ok (cells_in width field.0, field.1) else Err faults.RowSum

-- n rows, one after the other
unfoldable pub rows_at : ℕ → ℕ → ℕ → List ℕ → Result (List ℕ × List ℕ) SavedFault
rows_at zero width total bytes = Ok ([], bytes)
rows_at (suc n) width total bytes = do
  first ← row_at width total bytes
  others ← rows_at n width total first.1
  Ok (first.0 ++ others.0, others.1)

-- width, depth, the family, the total and the rows
unfoldable pub grid_at : List ℕ → Result (TableView × List ℕ) SavedFault
grid_at bytes = do
  width ← number_where w32 (λ n. in_range n max_width) faults.BadWidth bytes
  depth ← number_where w8 (λ n. in_range n max_depth) faults.BadDepth width.1
  family ← family_at depth.0 depth.1
  total ← total_at family.1
  cells ← rows_at depth.0 width.0 total.0 total.1
  Ok (record { family = family.0; width = width.0; total = total.0; cells = cells.0 }, cells.1)

-- ---- a whole file

-- the version that a magic names
abbrev pub version_of : ℕ → Result Version SavedFault
version_of n =
    if n == magic_of One then Ok One
    else if n == magic_of Two then Ok Two
    else Err faults.BadMagic

-- the version, by its magic
unfoldable pub version_at : List ℕ → Result (Version × List ℕ) SavedFault
version_at bytes = do
  first ← number_at w32 bytes
  version ← version_of first.0
  Ok (version, first.1)

-- the value of this kind
unfoldable pub body_at : Version → ℕ → List ℕ → Result (Saved × List ℕ) SavedFault
body_at version kind bytes =
    if kind == 1 then (do
      sketch ← sketch_at version bytes
      Ok (Counters sketch.0, sketch.1))
    else (if kind == 2 then (do
      grid ← grid_at bytes
      Ok (Cells grid.0, grid.1))
    else Err faults.BadKind)

-- a version, a kind and what follows it
unfoldable pub value_at : List ℕ → Result (Saved × List ℕ) SavedFault
value_at bytes = do
  version ← version_at bytes
  kind ← number_at w8 version.1
  body_at version.0 kind.0 kind.1

-- the value that all of the bytes spell in a version, or the first fault
unfoldable pub saved_of : List ℕ → Result Saved SavedFault
saved_of bytes = do
  value ← value_at bytes
  if length value.1 == 0 then Ok value.0 else Err faults.Trailing

-- the first fault of the bytes, where they spell nothing
abbrev pub fault_of : List ℕ → Option SavedFault
fault_of bytes = result_err (saved_of bytes)

-- ---- what is read before any memory is taken, and the bytes after it

-- the first entry, where there is one: its key takes the first memory
unfoldable pub entries_head_at : Version → ℕ → ℕ → List ℕ → Result (List ℕ) SavedFault
entries_head_at version zero left bytes = Ok bytes
entries_head_at version (suc n) left bytes = do
  first ← entry_at version [] left bytes
  Ok first.1

-- the head of a summary, with its first entry
unfoldable pub sketch_head_at : Version → List ℕ → Result (List ℕ) SavedFault
sketch_head_at version bytes = do
  k ← k_at bytes
  total ← total_at k.1
  count ← count_at k.0 total.1
  entries_head_at version count.0 total.0 count.1

-- the bytes of the family, whose coefficients take the first memory
unfoldable pub grid_head_at : List ℕ → Result (List ℕ) SavedFault
grid_head_at bytes = do
  width ← number_where w32 (λ n. in_range n max_width) faults.BadWidth bytes
  depth ← number_where w8 (λ n. in_range n max_depth) faults.BadDepth width.1
  family ← bytes_at (8 + 16 * depth.0) depth.1
  Ok family.1

-- the head of a value of this kind
unfoldable pub body_head_at : Version → ℕ → List ℕ → Result (List ℕ) SavedFault
body_head_at version kind bytes =
    if kind == 1 then sketch_head_at version bytes
    else (if kind == 2 then grid_head_at bytes
    else Err faults.BadKind)

-- the head of a file
unfoldable pub head_at : List ℕ → Result (List ℕ) SavedFault
head_at bytes = do
  version ← version_at bytes
  kind ← number_at w8 version.1
  body_head_at version.0 kind.0 kind.1
