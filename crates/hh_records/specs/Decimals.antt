-- Numbers with digits after a point.
use Rattle.std.specs.Prelude.{◌+◌, ◌-◌, ◌*◌, ◌/◌, ◌%◌, ◌^◌, ◌==◌, ◌&&◌, ◌||◌, ℕ, zero, suc, Bool, List, [], ◌∷◌, ◌++◌, length, take, drop, Option, Some, None, if◌then◌else◌}
use Rattle.std.specs.Fmt.{decimal}
use Rattle.std.specs.List.{position_from}
use Rattle.hh_stream.specs.Digits.{is_number, value_of}

-- the place of the first point, where the text starts at this place
abbrev pub point_from : ℕ → List ℕ → Option ℕ
point_from i text = position_from (λ b. b == 46) i text

-- the digits before a point: at most 20, or none
abbrev pub is_whole : List ℕ → Bool
is_whole text = (length text == 0) || is_number 20 text

-- a text of 1 to d digits, in units of 10^-d
abbrev pub after_point : ℕ → List ℕ → ℕ
after_point d text = value_of text * 10 ^ (d - length text)

-- the units of 10^-d that a text writes whose first point, where it has one, stands at this place: it
-- is 1 to 20 digits or, with 1 to d digits after the point, at most 20
abbrev pub units_at : ℕ → List ℕ → Option ℕ → Option ℕ
units_at d text None = if is_number 20 text then Some (value_of text * 10 ^ d) else None
units_at d text (Some i) =
    if is_whole (take i text) && is_number d (drop (i + 1) text)
    then Some (value_of (take i text) * 10 ^ d + after_point d (drop (i + 1) text)) else None

-- the weight that a field writes in units of 10^-d, and that of 1 where there is none
abbrev pub units_of : ℕ → Option (List ℕ) → Option ℕ
units_of d None = Some (10 ^ d)
units_of d (Some f) = units_at d f (point_from 0 f)

-- the last digits of a number, this many
unfoldable pub last_digits : ℕ → ℕ → List ℕ
last_digits zero n = []
last_digits (suc d) n = (48 + n / 10 ^ d % 10) ∷ last_digits d n

-- a number of units of 10^-d, with d digits after a point; where d is 0 there is no point
abbrev pub pointed : ℕ → ℕ → List ℕ
pointed zero n = decimal n
pointed (suc d) n = decimal (n / 10 ^ suc d) ++ 46 ∷ last_digits (suc d) n
