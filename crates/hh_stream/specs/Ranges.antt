-- Ranges of numbers.
use Rattle.std.specs.Prelude.{◌&&◌, nat_le, ℕ, Bool}

-- from 1 to the most
abbrev pub in_range : ℕ → ℕ → Bool
in_range n most = nat_le 1 n && nat_le n most
