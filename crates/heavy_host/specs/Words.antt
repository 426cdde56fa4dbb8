-- Words of the command line, which are bytes, and the texts that stand for them.
use Rattle.std.specs.Prelude.{ℕ, ◌<◌, ◌-◌, nat_le, List, [], ◌∷◌, Option, Some, None, length, slice_index_or, flat_map, if◌then◌else◌}
use Rattle.std.specs.Char.{encode_utf8}
use Rattle.std.specs.Option.{option_map_or}
use Rattle.std.specs.Str.{chars}

-- the byte that a character stands for, if it is one of the last 256
abbrev pub byte_of : ℕ → Option ℕ
byte_of c = if nat_le 0x10_FF00 c then Some (c - 0x10_FF00) else None

-- the bytes that a character stands for: that one, or else its own
abbrev pub spelled_bytes : ℕ → List ℕ
spelled_bytes c = option_map_or (λ b. b ∷ []) (byte_of c) (encode_utf8 c)

-- the word that a text stands for
abbrev pub word_of : List ℕ → List ℕ
word_of text = flat_map spelled_bytes (chars text)

-- these are all words of a source, which gives a word or none for each number
pub record AreAllWords (gives : ℕ → Option (List ℕ) → Type 0) (words : List (List ℕ)) : Type 0 where
  pub each : (number : ℕ) → number < length words → gives number (Some (slice_index_or words number []))
  pub end : gives (length words) None
