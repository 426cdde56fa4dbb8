-- The members of a line of JSON as the fields of a record.
use Rattle.std.specs.Prelude.{ℕ, Bool, false, true, List, [], ◌∷◌, ◌++◌, Option, None, Some, if◌then◌else◌, option_and_then, option_map}
use Rattle.std.specs.Option.{unwrap_or}
use Rattle.std.specs.Str.{is_utf8}
use Rattle.json.specs.Ascii.{false_text, true_text}
use Rattle.json.specs.Find.{as_number}
use Rattle.json.specs.Json.{Json, array, boolean, document, null, number, object, string}
use Rattle.hh_json.specs.Paths.{named}

-- a value is an object
abbrev pub is_object : Json → Bool
is_object null = false
is_object (boolean b) = false
is_object (number s) = false
is_object (string s) = false
is_object (array js) = false
is_object (object ms) = true

-- the object that a line is
abbrev pub object_in : List ℕ → Option Json
object_in line = if is_utf8 line then option_and_then (λ j. if is_object j then Some j else None) (document line) else None

-- the text of a key's member: a string's characters, and a number or a word as it is spelled
abbrev pub key_text : Json → Option (List ℕ)
key_text null = None
key_text (boolean true) = Some true_text
key_text (boolean false) = Some false_text
key_text (number s) = Some s
key_text (string s) = Some s
key_text (array js) = None
key_text (object ms) = None

-- the text of the key's member that a name leads to
abbrev pub key_of : Json → List ℕ → Option (List ℕ)
key_of j name = option_and_then key_text (named name j)

-- the spelling of the number that a name leads to
abbrev pub weight_text : Json → List ℕ → Option (List ℕ)
weight_text j name = option_and_then as_number (named name j)

-- the texts of all members of a key, where all are there
abbrev pub keys_of : Json → List (List ℕ) → Option (List (List ℕ))
keys_of j [] = Some []
keys_of j (name ∷ names) = option_and_then (λ text. option_map (λ texts. text ∷ texts) (keys_of j names)) (key_of j name)

-- the weight's text, as a list of one, or no text where no weight is named
abbrev pub weights_of : Json → Option (List ℕ) → Option (List (List ℕ))
weights_of j None = Some []
weights_of j (Some name) = option_map (λ text. text ∷ []) (weight_text j name)

-- the texts of all members that names lead to, where all are there
abbrev pub fields_in : List (List ℕ) → Option (List ℕ) → Json → Option (List (List ℕ))
fields_in names weight j = option_and_then (λ keys. option_map (λ rest. keys ++ rest) (weights_of j weight)) (keys_of j names)

-- the fields of the record that a line is, or none
abbrev pub json_fields : List (List ℕ) → Option (List ℕ) → List ℕ → List (List ℕ)
json_fields names weight line = unwrap_or (option_and_then (fields_in names weight) (object_in line)) []
