-- Cuttings of a list into consecutive pieces.
use Rattle.std.specs.Prelude.{ℕ, ◌+◌, ◌/◌, ◌%◌, ◌^◌, ◌≤◌, ◌<◌, nat_lt, List, [], ◌∷◌, length, map, sum, take, drop, if◌then◌else◌}
use Rattle.std.specs.List.{flat_map, range_with_len}

-- the most pieces of a cutting
abbrev pub max_pieces : ℕ
max_pieces = 1024

-- a cutting is the lengths of its pieces
pub record IsCutting (lengths : List ℕ) : Type 0 where
  pub some : 1 ≤ length lengths
  pub few : length lengths ≤ max_pieces
  pub fits : sum lengths < 2 ^ 64

-- the consecutive pieces of xs with these lengths
abbrev pub pieces_of : {A : Type 0} → List ℕ → List A → List (List A)
pieces_of [] xs = []
pieces_of (n ∷ ns) xs = take n xs ∷ pieces_of ns (drop n xs)

-- all pieces, one after the other
abbrev pub whole_of : {A : Type 0} → List (List A) → List A
whole_of pieces = flat_map (λ piece. piece) pieces

-- the length of piece i where n items are cut into p pieces evenly: the first pieces take what doesn't go up
abbrev pub even_length : ℕ → ℕ → ℕ → ℕ
even_length n p i = n / p + (if nat_lt i (n % p) then 1 else 0)

-- the lengths of p even pieces of n items
abbrev pub even_lengths : ℕ → ℕ → List ℕ
even_lengths n p = map (even_length n p) (range_with_len 0 p)
