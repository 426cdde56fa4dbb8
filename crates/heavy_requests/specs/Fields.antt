-- The fields of a record, which a delimiter parts. A field that begins with a quote goes on to the closing one, and two
-- quotes in it stand for one.
use Rattle.std.specs.Prelude.{ℕ, ◌==◌, ◌&&◌, Bool, true, false, not, List, [], ◌∷◌, ◌++◌, if◌then◌else◌}
use Rattle.heavy_requests.specs.declared.fields.FieldState.{FieldState}
use Rattle.heavy_requests.specs.declared.fields.FieldState.TheVariants.{Begin, Plain, Quoted, Quote}

abbrev pub is_quoted : FieldState → Bool
is_quoted Begin = false
is_quoted Plain = false
is_quoted Quoted = true
is_quoted Quote = false

-- a delimiter ends a field, but for one in quotes
abbrev pub ends_field : ℕ → FieldState → ℕ → Bool
ends_field delimiter at byte = byte == delimiter && not (is_quoted at)

-- a quote at the begin of a field, and one in quotes, is no part of it
abbrev pub is_mark : FieldState → ℕ → Bool
is_mark Begin byte = byte == 34
is_mark Plain byte = false
is_mark Quoted byte = byte == 34
is_mark Quote byte = false

-- the place after a byte that ends no field
abbrev pub place_after : FieldState → ℕ → FieldState
place_after Begin byte = if byte == 34 then Quoted else Plain
place_after Plain byte = Plain
place_after Quoted byte = if byte == 34 then Quote else Quoted
place_after Quote byte = if byte == 34 then Quoted else Plain

-- the fields from a place on, where the first of them so far has these bytes
unfoldable pub fields_from : ℕ → FieldState → List ℕ → List ℕ → List (List ℕ)
fields_from delimiter at field [] = field ∷ []
fields_from delimiter at field (byte ∷ rest) =
    if ends_field delimiter at byte then field ∷ fields_from delimiter Begin [] rest
    else fields_from delimiter (place_after at byte) (if is_mark at byte then field else field ++ byte ∷ []) rest

abbrev pub fields_in : ℕ → List ℕ → List (List ℕ)
fields_in delimiter bytes = fields_from delimiter Begin [] bytes
