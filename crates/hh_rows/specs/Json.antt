-- Records as JSON.
use Rattle.std.specs.Prelude.{◌/◌, ◌%◌, ◌==◌, ◌||◌, nat_lt, ℕ, Bool, false, List, [], ◌∷◌, ◌++◌, if◌then◌else◌}
use Rattle.std.specs.Char.{digit_char, is_ascii_digit}
use Rattle.std.specs.List.{flat_map, zip}
use Rattle.std.specs.Str.{is_utf8}
use Rattle.csv.specs.Writing.{backslash, comma, quote_mark}

-- the bytes around an object, and the one after a member's name
abbrev pub left_brace : ℕ
left_brace = 123

abbrev pub right_brace : ℕ
right_brace = 125

abbrev pub colon : ℕ
colon = 58

-- the two digits of a byte in base 16
abbrev pub hex : ℕ → List ℕ
hex b = digit_char (b / 16) ∷ digit_char (b % 16) ∷ []

-- how a string writes the character whose number has this first byte and that second one: `\u`, and the
-- four digits of both
abbrev pub escaped_by : ℕ → ℕ → List ℕ
escaped_by first second = backslash ∷ 117 ∷ (hex first ++ hex second)

-- whether a byte is a control character
abbrev pub is_control : ℕ → Bool
is_control b = nat_lt b 32 || (b == 127)

-- a byte of a field, in a string: a quote and a backslash after a backslash, a control character by its
-- number, and one that is no text by that of a lone surrogate, U+DC80 to U+DCFF
abbrev pub string_byte : Bool → ℕ → List ℕ
string_byte is_text b =
    if (b == quote_mark) || (b == backslash) then backslash ∷ b ∷ []
    else if is_control b then escaped_by 0 b
    else if nat_lt b 128 || is_text then b ∷ []
    else escaped_by 0xDC b

-- a field as a string. Its bytes of 128 and more are text where the whole field is UTF-8
abbrev pub string_text : List ℕ → List ℕ
string_text field = quote_mark ∷ (flat_map (string_byte (is_utf8 field)) field ++ (quote_mark ∷ []))

-- a member of an object: its name, and then this text
abbrev pub member_text : List ℕ → List ℕ → List ℕ
member_text name text = string_text name ++ (colon ∷ text)

-- the sign of a number below 0
abbrev pub minus : ℕ
minus = 45

-- whether a field begins with a digit, or with a minus and a digit
abbrev pub is_number : List ℕ → Bool
is_number [] = false
is_number (b ∷ []) = is_ascii_digit b
is_number (b ∷ c ∷ rest) = if b == minus then is_ascii_digit c else is_ascii_digit b

-- a field after the first: as it is where it begins as a number, and else a string
abbrev pub value_text : List ℕ → List ℕ
value_text field = if is_number field then field else string_text field

-- a member after others
abbrev pub next_member : List ℕ × List ℕ → List ℕ
next_member p = comma ∷ member_text p.0 (value_text p.1)

-- the members of an object, of names and fields: the first value is a string, and so are others that are no numbers
abbrev pub members_text : List (List ℕ × List ℕ) → List ℕ
members_text [] = []
members_text (p ∷ ps) = member_text p.0 (string_text p.1) ++ flat_map next_member ps

-- a record as an object
abbrev pub object_text : List (List ℕ) → List (List ℕ) → List ℕ
object_text names fields = left_brace ∷ (members_text (zip names fields) ++ (right_brace ∷ []))
