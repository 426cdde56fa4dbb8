-- Texts of records in files that are read at any place.
use Rattle.std.specs.Prelude.{◌≡◌, ◌+◌, ◌-◌, ◌<◌, ◌++◌, ℕ, List, [], take, drop, length}

-- `count` bytes from a place on are these of a buffer, and they are none only at the end or with no room
pub record GivesFrom (bytes : List ℕ) (at count : ℕ) (buffer : List ℕ) : Type 0 where
  pub gives : drop at bytes ≡ take count buffer ++ drop (at + count) bytes
  pub none : count ≡ 0 → 0 < length buffer → drop at bytes ≡ []

-- the bytes from a place up to another
abbrev pub bytes_between : ℕ → ℕ → List ℕ → List ℕ
bytes_between from to bytes = take (to - from) (drop from bytes)
