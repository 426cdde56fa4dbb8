-- What holds of the fields that lines of JSON have.
use Rattle.std.specs.Prelude.{◌≡◌, ◌==◌, ◌⊎◌, ◌+◌, ℕ, All, false, List, [], ◌∷◌, ◌++◌, Option, None, Some, codes, if◌then◌else◌, length, option_and_then}
use Rattle.std.specs.Borrow.{Bor}
use Rattle.std.specs.List.{flat_map}
use Rattle.std.specs.Option.{option_len}
use Rattle.json.specs.Ascii.{slash}
use Rattle.json.specs.Find.{get_member}
use Rattle.json.specs.Json.{Json, Members, number, object, string}
use Rattle.json.specs.Value.{members_of}
use Rattle.hh_json.specs.Fields.{json_fields, key_text, object_in}
use Rattle.hh_json.specs.Paths.{is_pointer, named, step}

-- two lines that are one object have the same fields, however they are spelled
abbrev pub LinesOfOneObject : Type 0
LinesOfOneObject =
    (names : List (List ℕ)) (weight : Option (List ℕ)) (a b : List ℕ)
    → object_in a ≡ object_in b → json_fields names weight a ≡ json_fields names weight b

-- a line has a field for each name, or none
abbrev pub FieldsAreAllOrNone : Type 0
FieldsAreAllOrNone =
    (names : List (List ℕ)) (weight : Option (List ℕ)) (line : List ℕ)
    → (json_fields names weight line ≡ []) ⊎ (length (json_fields names weight line) ≡ length names + option_len weight)

-- a number is the key that a string of its spelling is
abbrev pub NumbersAreKeysAsStrings : Type 0
NumbersAreKeysAsStrings = (s : List ℕ) → key_text (number s) ≡ key_text (string s)

-- of members of one name the last counts
abbrev pub LastMemberCounts : Type 0
LastMemberCounts =
    (ms : List (Bor (List ℕ) × Json)) (m : Bor (List ℕ) × Json) → is_pointer m.0.now ≡ false
    → named m.0.now (object (members_of (ms ++ m ∷ []))) ≡ Some m.1

-- a pointer goes on from what its first part leads to
abbrev pub PointersGoPartByPart : Type 0
PointersGoPartByPart =
    (part rest : List ℕ) (j : Json) → All (λ b. (b == slash) ≡ false) part
    → named (slash ∷ part ++ slash ∷ rest) j ≡ option_and_then (named (slash ∷ rest)) (step part j)

-- a byte of a name as it stands in a pointer: `~` is `~0`, and `/` is `~1`
abbrev pub escaped : ℕ → List ℕ
escaped b = if b == 126 then codes "~0" else (if b == slash then codes "~1" else b ∷ [])

-- a pointer leads to each member, whatever its name
abbrev pub EachMemberHasAPointer : Type 0
EachMemberHasAPointer =
    (name : List ℕ) (ms : Members) → named (slash ∷ flat_map escaped name) (object ms) ≡ get_member name ms

-- the fields of a line for one name, and for the weight's
abbrev pub fields_of_line : List ℕ → Option (List ℕ) → List ℕ → List (List ℕ)
fields_of_line name weight line = json_fields (name ∷ []) weight line

-- a key with an escape and a weight with a point; a number and a string that are one key; a pointer
abbrev pub ExampleLines : Type 0
ExampleLines =
    (fields_of_line (codes "client") (Some (codes "bytes")) (codes "{\"bytes\": 1.50, \"client\": \"\\u0061b\"}") ≡ codes "ab" ∷ codes "1.50" ∷ [])
    × (fields_of_line (codes "a") None (codes "{\"a\":1}") ≡ codes "1" ∷ [])
    × (fields_of_line (codes "a") None (codes "{\"a\":\"0\",\"a\":\"1\"}") ≡ codes "1" ∷ [])
    × (fields_of_line (codes "/a/1/b~1c") None (codes "{\"a\":[null,{\"b/c\":true}]}") ≡ codes "true" ∷ [])

-- a member that is missing, null, or an array; a weight that is a string; a line that is no object, and one that is no JSON
abbrev pub ExampleRefusals : Type 0
ExampleRefusals =
    (fields_of_line (codes "a") None (codes "{\"b\":1}") ≡ [])
    × (fields_of_line (codes "a") None (codes "{\"a\":null}") ≡ [])
    × (fields_of_line (codes "a") None (codes "{\"a\":[1]}") ≡ [])
    × (fields_of_line (codes "a") (Some (codes "b")) (codes "{\"a\":1,\"b\":\"2\"}") ≡ [])
    × (fields_of_line (codes "/0") None (codes "[1]") ≡ [])
    × (fields_of_line (codes "a") None (codes "{\"a\":NaN}") ≡ [])
