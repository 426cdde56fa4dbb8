-- Numbers that ASCII digits write.
use Rattle.std.specs.Prelude.{◌+◌, ◌-◌, ◌*◌, ◌==◌, ◌&&◌, not, nat_le, ℕ, Bool, List, length, fold}
use Rattle.std.specs.List.{list_all}

-- an ASCII digit
abbrev pub is_digit : ℕ → Bool
is_digit b = nat_le 48 b && nat_le b 57

-- a text of 1 to `most` digits
abbrev pub is_number : ℕ → List ℕ → Bool
is_number most text = not (length text == 0) && nat_le (length text) most && list_all is_digit text

-- the number that digits write
abbrev pub value_of : List ℕ → ℕ
value_of text = fold (λ a d. a * 10 + (d - 48)) 0 text
