-- Hash families: the coefficients, the fingerprint and the cell of a key, and the family of a seed.
use Rattle.std.specs.Prelude.{ℕ, ◌+◌, ◌*◌, ◌-◌, ◌%◌, ◌^◌, ◌≡◌, ◌≤◌, ◌<◌, Bool, true, ◌&&◌, nat_eq, List, [], ◌∷◌, length, fold, All, slice_index, slice_index_or}
use lib.Pointwise.{pointwise}
use Rattle.hh_stream.specs.Ranges.{in_range}
use Rattle.hh_stream.specs.Weights.{Bytes}
use Rattle.rand_core.specs.Steps.{first_words}
use Rattle.rand_core.specs.Pcg32Seed.{pcg32_seed}
use Rattle.rand_pcg.specs.Lcg.{Lcg}
use Rattle.rand_pcg.specs.Pcg.{pcg64, pcg64_of_seed}

-- fingerprints and cells are computed modulo 2^61 - 1
abbrev pub modulus : ℕ
modulus = 2305843009213693951

-- what a contract sees of a family: the multiplier of the fingerprint, and a pair (a, b) for each row
pub record Coefficients : Type 0 where
  pub z : ℕ
  pub rows : List (ℕ × ℕ)

-- a row multiplies by a number that isn't 0
abbrev pub IsRow : ℕ × ℕ → Type 0
IsRow row = (1 ≤ row.0) × (row.0 < modulus) × (row.1 < modulus)

-- the most rows of a family, and the most cells of a row
abbrev pub max_depth : ℕ
max_depth = 16

abbrev pub max_width : ℕ
max_width = 65536

abbrev pub AreCoefficients : ℕ → List (ℕ × ℕ) → Type 0
AreCoefficients z rows = (1 ≤ z) × (z < modulus) × All IsRow rows

pub record IsFamily (family : Coefficients) : Type 0 where
  pub depth : in_range (length family.rows) max_depth ≡ true
  pub coefficients : AreCoefficients family.z family.rows

-- whether two families are one
abbrev pub same_row : ℕ × ℕ → ℕ × ℕ → Bool
same_row p q = nat_eq p.0 q.0 && nat_eq p.1 q.1

abbrev pub same_family : Coefficients → Coefficients → Bool
same_family f g = nat_eq f.z g.z && pointwise same_row f.rows g.rows

-- the coefficients of row r
abbrev pub coefficients_of : Coefficients → ℕ → ℕ × ℕ
coefficients_of family r = slice_index_or family.rows r (0, 0)

-- one byte more
abbrev pub fingerprint_step : ℕ → ℕ → ℕ → ℕ
fingerprint_step z acc v = (acc * z + (v + 1)) % modulus

-- the fingerprint of a key: its bytes as digits to the base z, each raised by one
abbrev pub fingerprint_of : ℕ → Bytes → ℕ
fingerprint_of z bytes = fold (fingerprint_step z) 0 bytes

-- the powers of z from 0 to 8
abbrev pub ArePowers : ℕ → List ℕ → Type 0
ArePowers z powers = (i : ℕ) → i ≤ 8 → slice_index powers i ≡ z ^ i % modulus

-- the cell of a fingerprint in a row
abbrev pub cell_of_fingerprint : ℕ × ℕ → ℕ → ℕ → ℕ
cell_of_fingerprint row fingerprint width = (row.0 * fingerprint + row.1) % modulus % width

-- the cell of a key in row r
abbrev pub cell_of : Coefficients → ℕ → Bytes → ℕ → ℕ
cell_of family r key width = cell_of_fingerprint (coefficients_of family r) (fingerprint_of family.z key) width

-- ---- the family of a seed

-- a coefficient that isn't 0, of a word of a generator, and one that may be
abbrev pub factor_of : ℕ → ℕ
factor_of word = 1 + word % (modulus - 1)

abbrev pub addend_of : ℕ → ℕ
addend_of word = word % modulus

-- a pair of coefficients for each two words
abbrev pub rows_of_words : List ℕ → List (ℕ × ℕ)
rows_of_words [] = []
rows_of_words (a ∷ []) = []
rows_of_words (a ∷ b ∷ words) = (factor_of a, addend_of b) ∷ rows_of_words words

-- the first word makes z, and the others the rows
abbrev pub family_of_words : List ℕ → Coefficients
family_of_words [] = record { z = 0; rows = [] }
family_of_words (word ∷ words) = record { z = factor_of word; rows = rows_of_words words }

-- the generator of a seed is PCG64, seeded as rand_core's `seed_from_u64` does
abbrev pub generator_of : ℕ → Lcg
generator_of seed = pcg64_of_seed (pcg32_seed 32 seed)

-- the family that a seed draws: of the generator's first words, in order
abbrev pub drawn_family : ℕ → ℕ → Coefficients
drawn_family seed depth = family_of_words (first_words pcg64 (1 + 2 * depth) (generator_of seed))
