-- Places in a text of records, as far as they tell where a quote opens or closes.
use Rattle.std.specs.Prelude.{◌≡◌, ◌==◌, ◌||◌, ◌≤◌, ◌<◌, ℕ, Bool, true, false, List, [], ◌∷◌, fold, take, slice_index, if◌then◌else◌}
use Rattle.csv.specs.Reading.{is_bom}
use Rattle.hh_pieces.specs.declared.cuts.QuoteState.{QuoteState}
use Rattle.hh_pieces.specs.declared.cuts.QuoteState.TheVariants as place

-- the place after a byte that is no quote, outside quotes, with this byte between fields
abbrev pub plain_after : ℕ → ℕ → QuoteState
plain_after d c = if c == d then place.Start else if (c == 13) || (c == 10) then place.Start else place.Field

-- the place after one more byte
abbrev pub place_next : ℕ → QuoteState → ℕ → QuoteState
place_next d place.Start c = if c == 34 then place.Quoted else plain_after d c
place_next d place.Field c = plain_after d c
place_next d place.Quoted c = if c == 34 then place.Left else place.Quoted
place_next d place.Left c = if c == 34 then place.Quoted else plain_after d c

-- the place after these bytes, where they stand after a place
abbrev pub place_from : ℕ → QuoteState → List ℕ → QuoteState
place_from d p bytes = fold (place_next d) p bytes

-- the place after these bytes
abbrev pub place_after : ℕ → List ℕ → QuoteState
place_after d bytes = place_from d place.Start bytes

-- whether a line feed ends a record here
abbrev pub is_open : QuoteState → Bool
is_open place.Start = true
is_open place.Field = true
is_open place.Quoted = false
is_open place.Left = true

-- a line feed that is not in quotes stands here
pub record IsFeedAt (d : ℕ) (bytes : List ℕ) (i : ℕ) : Type 0 where
  pub feed : slice_index bytes i ≡ 10
  pub outside : is_open (place_after d (take i bytes)) ≡ true

-- no quote stands from i up to j
abbrev pub NoQuote : List ℕ → ℕ → ℕ → Type 0
NoQuote bytes i j = (k : ℕ) → i ≤ k → k < j → ¬ (slice_index bytes k ≡ 34)

-- how many bytes of a byte order mark a text begins with
abbrev pub mark_len : List ℕ → ℕ
mark_len [] = 0
mark_len (a ∷ []) = 0
mark_len (a ∷ b ∷ []) = 0
mark_len (a ∷ b ∷ c ∷ rest) = if is_bom a b c then 3 else 0
