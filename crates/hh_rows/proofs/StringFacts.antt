-- Strings, read back.
use Rattle.std.proofs.Common.{◌≡◌, ◌∙◌, ℕ, ◌+◌, ◌-◌, ◌*◌, Bool, true, false, List, [], ◌∷◌, ◌++◌, drop, inl, inr, refl, sym, ap, arith, append_assoc}
use Rattle.std.specs.Prelude.{◌/◌, ◌%◌, ◌==◌, ◌||◌, nat_lt, if◌then◌else◌}
use Rattle.std.specs.Char.{digit_char}
use Rattle.std.specs.List.{flat_map}
use Rattle.std.specs.Str.{is_utf8}
use Rattle.std.proofs.lemmas.Bool.Decides.{eqb_tells, nat_tests}
use Rattle.hh_rows.specs.Json.{escaped_by, is_control, string_byte}
use Rattle.hh_rows.specs.Laws.{StringsTellFieldsApart}

-- the number that a digit writes
digit : ℕ → ℕ
digit c = if nat_lt c 58 then c - 48 else c - 87

digit-read : (n : ℕ) → digit (digit_char n) ≡ n
unfolding digit
digit-read n = grind (arith, nat_tests)

-- a place in a string: between bytes, after a backslash, or before one of the digits of a number; the last
-- after the one that counts sixteens
data Place : Type 0 where
  plain : Place
  escape : Place
  first : Place
  second : Place
  third : Place
  fourth : ℕ → Place

-- the bytes that a string writes, from a place on
bytes_read : Place → List ℕ → List ℕ
bytes_read p [] = []
bytes_read plain (c ∷ rest) =
    if c == 34 then [] else if c == 92 then bytes_read escape rest else c ∷ bytes_read plain rest
bytes_read escape (c ∷ rest) = if c == 117 then bytes_read first rest else c ∷ bytes_read plain rest
bytes_read first (c ∷ rest) = bytes_read second rest
bytes_read second (c ∷ rest) = bytes_read third rest
bytes_read third (c ∷ rest) = bytes_read (fourth (digit c)) rest
bytes_read (fourth n) (c ∷ rest) = (16 * n + digit c) ∷ bytes_read plain rest

escaped-read : (a b : ℕ) (rest : List ℕ) → bytes_read plain (escaped_by a b ++ rest) ≡ b ∷ bytes_read plain rest
unfolding bytes_read
escaped-read a b rest =
    let same : 16 * digit (digit_char (b / 16)) + digit (digit_char (b % 16)) ≡ b =
    rw (digit-read (b / 16), digit-read (b % 16)) (omega arith) in
    ap (λ (n : ℕ). n ∷ bytes_read plain rest) same

byte-read : (t : Bool) (b : ℕ) (rest : List ℕ) → bytes_read plain (string_byte t b ++ rest) ≡ b ∷ bytes_read plain rest
unfolding bytes_read
byte-read t b rest = elim (eqb_tells b 34) [
  | inl (e, same) ↦ rw same refl
  | inr (quote, _) ↦ elim (eqb_tells b 92) [
    | inl (e, same) ↦ rw same refl
    | inr (slash, _) ↦ rw (quote, slash) (by (is_control b) (nat_lt b 128 || t) quote slash)
  ]
]
  where
    by : (control stands : Bool) → (b == 34) ≡ false → (b == 92) ≡ false
        → bytes_read plain ((if control then escaped_by 0 b else if stands then b ∷ [] else escaped_by 0xDC b) ++ rest)
        ≡ b ∷ bytes_read plain rest
    by true stands quote slash = escaped-read 0 b rest
    by false true quote slash = rw (quote, slash) refl
    by false false quote slash = escaped-read 0xDC b rest

field-read : (t : Bool) (f : List ℕ) → bytes_read plain (flat_map (string_byte t) f ++ 34 ∷ []) ≡ f
unfolding bytes_read
field-read t [] = refl
field-read t (b ∷ f) =
    ap (bytes_read plain) (append_assoc (string_byte t b) (flat_map (string_byte t) f) (34 ∷ []))
    ∙ byte-read t b (flat_map (string_byte t) f ++ 34 ∷ []) ∙ ap (λ (rest : List ℕ). b ∷ rest) (field-read t f)

pub strings_tell_fields_apart : StringsTellFieldsApart
strings_tell_fields_apart f g e =
    sym (field-read (is_utf8 f) f) ∙ ap (λ (text : List ℕ). bytes_read plain (drop 1 text)) e ∙ field-read (is_utf8 g) g
