-- The fields of a record, byte by byte.
use Rattle.std.proofs.Common.{◌≡◌, ◌<◌, ◌≤◌, ◌+◌, ℕ, Bool, true, false, List, [], ◌∷◌, ◌++◌, length, ap, sym, ◌∙◌, append_assoc, get_or, drop, if◌then◌else◌}
use Rattle.std.proofs.lemmas.List.{at_drop_more, drop_all}
use Rattle.heavy_requests.specs.Fields.{ends_field, fields_from, is_mark, place_after}
use Rattle.heavy_requests.specs.declared.fields.FieldState.{FieldState}
use Rattle.heavy_requests.specs.declared.fields.FieldState.TheVariants.{Begin}

-- what one byte makes of a field and of the fields after it
stepped : (by : ℕ) (at : FieldState) (field bytes : List ℕ) (i d : ℕ) → i < length bytes
    → fields_from by at field (drop i bytes)
    ≡ if ends_field by at (get_or bytes i d) then field ∷ fields_from by Begin [] (drop (i + 1) bytes)
    else fields_from by (place_after at (get_or bytes i d)) (if is_mark at (get_or bytes i d) then field else field ++ get_or bytes i d ∷ []) (drop (i + 1) bytes)
unfolding fields_from
stepped by at field bytes i d below = at_drop_more (fields_from by at field) bytes i d below

-- a byte that ends a field
pub field_ended : (by : ℕ) (ended all : List (List ℕ)) (at : FieldState) (field bytes : List ℕ) (i d : ℕ) → i < length bytes
    → ended ++ fields_from by at field (drop i bytes) ≡ all → ends_field by at (get_or bytes i d) ≡ true
    → (ended ++ field ∷ []) ++ fields_from by Begin [] (drop (i + 1) bytes) ≡ all
field_ended by ended all at field bytes i d below so_far ends =
    append_assoc ended (field ∷ []) (fields_from by Begin [] (drop (i + 1) bytes))
    ∙ sym (ap (λ (fields : List (List ℕ)). ended ++ fields) (stepped by at field bytes i d below
    ∙ ap (λ (b : Bool). if b then field ∷ fields_from by Begin [] (drop (i + 1) bytes)
    else fields_from by (place_after at (get_or bytes i d)) (if is_mark at (get_or bytes i d) then field else field ++ get_or bytes i d ∷ []) (drop (i + 1) bytes)) ends))
    ∙ so_far

-- a byte that ends none
pub field_goes_on : (by : ℕ) (ended all : List (List ℕ)) (at : FieldState) (field next bytes : List ℕ) (i d : ℕ) → i < length bytes
    → ended ++ fields_from by at field (drop i bytes) ≡ all → ends_field by at (get_or bytes i d) ≡ false
    → next ≡ (if is_mark at (get_or bytes i d) then field else field ++ get_or bytes i d ∷ [])
    → ended ++ fields_from by (place_after at (get_or bytes i d)) next (drop (i + 1) bytes) ≡ all
field_goes_on by ended all at field next bytes i d below so_far goes is =
    ap (λ (f : List ℕ). ended ++ fields_from by (place_after at (get_or bytes i d)) f (drop (i + 1) bytes)) is
    ∙ sym (ap (λ (fields : List (List ℕ)). ended ++ fields) (stepped by at field bytes i d below
    ∙ ap (λ (b : Bool). if b then field ∷ fields_from by Begin [] (drop (i + 1) bytes)
    else fields_from by (place_after at (get_or bytes i d)) (if is_mark at (get_or bytes i d) then field else field ++ get_or bytes i d ∷ []) (drop (i + 1) bytes)) goes))
    ∙ so_far

-- the end of the record ends the last field
pub fields_done : (by : ℕ) (ended all : List (List ℕ)) (at : FieldState) (field bytes : List ℕ) (i : ℕ) → length bytes ≤ i
    → ended ++ fields_from by at field (drop i bytes) ≡ all → ended ++ field ∷ [] ≡ all
unfolding fields_from
fields_done by ended all at field bytes i done so_far =
    sym (ap (λ (rest : List ℕ). ended ++ fields_from by at field rest) (drop_all i bytes done)) ∙ so_far

-- the same fields by equal parts
pub same_fields : (by : ℕ) (ended now all : List (List ℕ)) (at from : FieldState) (field first rest : List ℕ) → ended ≡ now → at ≡ from
    → field ≡ first → now ++ fields_from by from first rest ≡ all → ended ++ fields_from by at field rest ≡ all
same_fields by ended now all at from field first rest a b c d = cc
