-- The values that names lead to, in a JSON value.
use Rattle.std.specs.Prelude.{◌==◌, ℕ, Bool, false, true, List, [], ◌∷◌, Option, None, Some, drop, if◌then◌else◌, option_and_then}
use Rattle.std.specs.List.{slice_split}
use Rattle.json.specs.Ascii.{slash}
use Rattle.json.specs.Find.{get, get_item, get_member}
use Rattle.json.specs.Json.{Json, array, boolean, null, number, object, string}
use Rattle.serde_json.specs.Find.{index_of, unescape}

-- the name that a part is: as it stands, or escaped
abbrev pub part_name : Bool → List ℕ → List ℕ
part_name false part = part
part_name true part = unescape part

-- what a part of a pointer leads to: the last member of that name, or the item with that number
abbrev pub step : List ℕ → Json → Option Json
step part null = None
step part (boolean b) = None
step part (number s) = None
step part (string s) = None
step part (array js) = option_and_then (λ i. get_item i js) (index_of part)
step part (object ms) = get_member (unescape part) ms

-- the parts of a text that has a slash between two
abbrev pub parts_of : List ℕ → List (List ℕ)
parts_of text = slice_split (λ b. b == slash) text

-- what all parts of a pointer lead to, one after the other
abbrev pub follow : List (List ℕ) → Json → Option Json
follow [] j = Some j
follow (part ∷ parts) j = option_and_then (follow parts) (step part j)

-- the name is a JSON pointer: it begins with a slash
abbrev pub is_pointer : List ℕ → Bool
is_pointer [] = false
is_pointer (x ∷ rest) = x == slash

-- the value that a name leads to: by a pointer, or the last member of that name
abbrev pub named : List ℕ → Json → Option Json
named name j = if is_pointer name then follow (parts_of (drop 1 name)) j else get name j
