-- What a text that grows stands for, and one with no character that stands for a byte.
use Rattle.std.proofs.Common.{◌≡◌, ◌∙◌, ℕ, List, [], ◌∷◌, ◌++◌, Bool, true, false, Option, Some, None, is_none, flat_map, refl, sym, ap, append-nil, ◌&&◌}
use Rattle.std.specs.Char.{IsScalar, encode_utf8}
use Rattle.std.specs.List.{list_all}
use Rattle.std.specs.Str.{chars, IsUtf8, encode_utf8_all}
use Rattle.std.proofs.lemmas.Grind.{flat_map-append}
use Rattle.std.proofs.lemmas.Str.{chars-append, chars_past_char, chars-nil, encodes-chars, IsUtf8-encode}
use Rattle.std.specs.Option.{option_map_or}
use Rattle.heavy_host.specs.Words.{byte_of, spelled_bytes, word_of}

-- a character more stands for a byte more
pub word_of-push : (text word : List ℕ) (c b : ℕ) → IsUtf8 text → IsScalar c → spelled_bytes c ≡ b ∷ []
    → word_of text ≡ word → word_of (text ++ encode_utf8 c) ≡ word ++ b ∷ []
word_of-push text word c b u s is so =
    let one : chars (encode_utf8 c) ≡ c ∷ [] =
    chars_past_char (encode_utf8 c) [] c (IsUtf8-encode c s) (sym (append-nil _)) ∙ ap (λ l. c ∷ l) chars-nil in
    ap (flat_map spelled_bytes) (chars-append text (encode_utf8 c) u ∙ ap (λ l. chars text ++ l) one)
    ∙ flat_map-append spelled_bytes (chars text) (c ∷ [])
    ∙ ap (λ l. l ++ (spelled_bytes c ++ [])) so
    ∙ ap (λ l. word ++ l) (append-nil (spelled_bytes c) ∙ is)

-- a character that stands for no byte stands for its own bytes
own_bytes : (o : Option ℕ) (bytes : List ℕ) → is_none o ≡ true → option_map_or (λ b. b ∷ []) o bytes ≡ bytes
own_bytes None bytes e = refl
own_bytes (Some b) bytes e = cc

-- characters that stand for no byte stand for their own bytes
own_bytes-all : (cs : List ℕ) → list_all (λ c. is_none (byte_of c)) cs ≡ true
    → flat_map spelled_bytes cs ≡ encode_utf8_all cs
own_bytes-all [] e = refl
own_bytes-all (c ∷ cs) e = go (is_none (byte_of c)) refl e (own_bytes-all cs)
  where
    go : (b : Bool) → is_none (byte_of c) ≡ b → (b && list_all (λ c. is_none (byte_of c)) cs) ≡ true
        → (list_all (λ c. is_none (byte_of c)) cs ≡ true → flat_map spelled_bytes cs ≡ encode_utf8_all cs)
        → flat_map spelled_bytes (c ∷ cs) ≡ encode_utf8_all (c ∷ cs)
    go true is rest others =
        ap (λ l. l ++ flat_map spelled_bytes cs) (own_bytes (byte_of c) (encode_utf8 c) is) ∙ ap (λ l. encode_utf8 c ++ l) (others rest)
    go false is rest others = cc

-- a text with no character that stands for a byte stands for its own bytes
pub word_of-plain : (text : List ℕ) → IsUtf8 text
    → list_all (λ c. is_none (byte_of c)) (chars text) ≡ true → word_of text ≡ text
word_of-plain text u e = own_bytes-all (chars text) e ∙ encodes-chars text u
