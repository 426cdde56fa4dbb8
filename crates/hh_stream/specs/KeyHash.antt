-- What a keyed hasher computes.
use Rattle.std.specs.Prelude.{ℕ, zero, suc, ◌+◌, ◌-◌, ◌*◌, ◌/◌, ◌%◌, List, length, drop, if◌then◌else◌, nat_le, slice_index, bit_xor}
use Rattle.std.specs.Hash.FoldHasher.{folded_multiply}
use Rattle.std.specs.Int.{w32, w64, from_le_bytes, rotate_left}
use Rattle.hh_stream.specs.declared.key_hash.KeyHash.{KeyHash}
use Rattle.hh_stream.specs.declared.key_hash.KeyHasher.{KeyHasher}

-- the words that all runs have
unfoldable pub fixed_words : KeyHash
fixed_words = record { start = 0x243f_6a88_85a3_08d3; factor = 0x1319_8a2e_0370_7344 }

-- the hasher before any byte
abbrev pub first_hasher : KeyHash → KeyHasher
first_hasher keys = record { state = keys.start; factor = keys.factor }

-- the eight bytes from i on, as a number
abbrev pub word : List ℕ → ℕ → ℕ
word bytes i = from_le_bytes w64 (drop i bytes)

-- the four bytes from i on, as a number
abbrev pub half_word : List ℕ → ℕ → ℕ
half_word bytes i = from_le_bytes w32 (drop i bytes)

-- the last two words, which may have bytes in common: they hold all of up to 16 bytes
unfoldable pub last_words : List ℕ → ℕ × ℕ
last_words bytes =
    let n = length bytes in
    if nat_le 8 n then (word bytes (n - 16), word bytes (n - 8))
    else (if nat_le 4 n then (half_word bytes 0, half_word bytes (n - 4))
    else (if nat_le 1 n then (slice_index bytes 0, slice_index bytes (n / 2) + slice_index bytes (n - 1) * 256)
    else (0, 0)))

-- the state after two words
abbrev pub step : ℕ → ℕ → ℕ → ℕ → ℕ
step factor state first last = folded_multiply (bit_xor state first) (bit_xor factor last)

-- the state after the first n blocks of 16 bytes
unfoldable pub after_blocks : ℕ → ℕ → List ℕ → ℕ → ℕ
after_blocks factor state bytes zero = state
after_blocks factor state bytes (suc n) =
    step factor (after_blocks factor state bytes n) (word bytes (16 * n)) (word bytes (16 * n + 8))

-- the hasher after these bytes
unfoldable pub write : KeyHasher → List ℕ → KeyHasher
write hasher bytes =
    let turned = rotate_left w64 hasher.state (length bytes % 64) in
    let blocks = (length bytes - 1) / 16 in
    let state = after_blocks hasher.factor turned bytes blocks in
    let words = last_words bytes in
    record hasher { state = step hasher.factor state words.0 words.1 }

-- the hash of the bytes so far
abbrev pub finish : KeyHasher → ℕ
finish hasher = hasher.state
