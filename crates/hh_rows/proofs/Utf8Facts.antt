-- What strings are made of, and whether bytes are UTF-8.
use Rattle.std.proofs.Common.{◌≡◌, ℕ, zero, suc, ◌<◌, ◌≤◌, Bool, true, false, ◌&&◌, List, [], ◌∷◌, ◌++◌, length, get_or, inl, inr, ◌∙◌, refl, sym, ap, ap₂, subst, arith, append-nil, append_assoc, ltb-true, Bor, Result, Ok, Err}
use Rattle.std.specs.Prelude.{All, nat_lt, not}
use Rattle.std.specs.List.{AllByRecursion, flat_map, list_all}
use Rattle.std.specs.Result.{MatchResult, is_ok}
use Rattle.std.specs.Str.{IsUtf8, IsValidUpTo, is_utf8, valid_up_to}
use Rattle.std.specs.declared.str.Utf8Error.{Utf8Error}
use Rattle.std.proofs.lemmas.Bool.{and_parts, cases_eq, cases_lt}
use Rattle.std.proofs.lemmas.Bool.Decides.{nat_tests}
use Rattle.std.proofs.lemmas.List.Concat.{flat_map-append}
use Rattle.std.proofs.lemmas.List.Elements.{All-from_recursion, recursion_from_All}
use Rattle.std.proofs.lemmas.List.Folds.{list_all-append}
use Rattle.std.proofs.lemmas.Str.{IsUtf8-append, IsUtf8-encode, IsUtf8-from_is_utf8, IsUtf8-nil, encode_ascii, inside_one, is_utf8-from_IsUtf8}
use Rattle.csv.specs.Writing.{quote_mark}
use Rattle.hh_rows.specs.Json.{is_control, string_byte, string_text}
use Rattle.hh_rows.specs.Laws.{StringsAreUtf8, StringsHaveNoControls}
use lib.Utf8.{encode, encodes, low_scalar, scalar, scalars}

ascii_then : (b : ℕ) (rest : List ℕ) → b < 128 → IsUtf8 rest → IsUtf8 (b ∷ rest)
ascii_then b rest small u =
    let one = IsUtf8-encode b (low_scalar b (omega arith)) in
    IsUtf8-append (b ∷ []) rest (subst IsUtf8 (encode_ascii b small) one) u

abbrev is_ascii : ℕ → Bool
is_ascii b = nat_lt b 128

IsUtf8-are_ascii : (bytes : List ℕ) → list_all is_ascii bytes ≡ true → IsUtf8 bytes
IsUtf8-are_ascii [] e = IsUtf8-nil
IsUtf8-are_ascii (b ∷ bytes) e =
    let p = and_parts _ _ e in ascii_then b bytes (ltb-true _ _ p.0) (IsUtf8-are_ascii bytes p.1)

-- whether the bytes below n are written as bytes that pass a test
abbrev written_below : (ℕ → Bool) → Bool → ℕ → Bool
written_below test t zero = true
written_below test t (suc n) = list_all test (string_byte t n) && written_below test t n

written : (test : ℕ → Bool) (t : Bool) (n : ℕ) → written_below test t n ≡ true → (b : ℕ) → b < n
    → list_all test (string_byte t b) ≡ true
written test t zero e b l = absurd (omega arith)
written test t (suc n) e b l =
    let p = and_parts _ _ e in
    elim (cases_eq b n) [ inl same ↦ rw same p.0 | inr other ↦ written test t n p.1 b (omega arith) ]

-- a byte of 128 or more stands as it is
high_byte : (b : ℕ) → 128 ≤ b → string_byte true b ≡ b ∷ []
high_byte b l = grind (arith, nat_tests)

high_bytes : (bytes : List ℕ) → ((k : ℕ) → k < length bytes → 128 ≤ get_or bytes k 0)
    → flat_map (string_byte true) bytes ≡ bytes
high_bytes [] h = refl
high_bytes (b ∷ bytes) h =
    ap₂ (λ (x y : List ℕ). x ++ y) (high_byte b (h 0 (omega arith))) (high_bytes bytes (λ k l. h (suc k) (omega arith)))

one_char : (c : ℕ) → scalar c ≡ true → IsUtf8 (flat_map (string_byte true) (encode c))
one_char c ok = elim (cases_lt c 128) [
  | inl small ↦
      rw (encode_ascii c small, append-nil) (IsUtf8-are_ascii (string_byte true c) (written is_ascii true 128 refl c small))
  | inr big ↦
      let high : (k : ℕ) → k < length (encode c) → 128 ≤ get_or (encode c) k 0 =
      λ k l. elim (cases_lt (get_or (encode c) k 0) 128) [
        | inl low ↦ absurd (omega (arith, inside_one c [] (encode c) k (sym (append-nil _)) l low))
        | inr h ↦ h
      ] in
      subst IsUtf8 (sym (high_bytes (encode c) high)) (IsUtf8-encode c ok)
]

all_chars : (cs : List ℕ) → scalars cs ≡ true → IsUtf8 (flat_map (string_byte true) (encodes cs))
all_chars [] e = IsUtf8-nil
all_chars (c ∷ cs) e =
    let p = and_parts _ _ e in
    subst IsUtf8 (sym (flat_map-append (string_byte true) (encode c) (encodes cs)))
    (IsUtf8-append _ _ (one_char c p.0) (all_chars cs p.1))

all_bytes : (f : List ℕ) → AllByRecursion (λ b. b < 256) f → IsUtf8 (flat_map (string_byte false) f)
all_bytes [] h = IsUtf8-nil
all_bytes (b ∷ f) h =
    IsUtf8-append _ _ (IsUtf8-are_ascii (string_byte false b) (written is_ascii false 256 refl b h.0)) (all_bytes f h.1)

field_written : (f : List ℕ) (t : Bool) → is_utf8 f ≡ t → All (λ b. b < 256) f → IsUtf8 (flat_map (string_byte t) f)
field_written f true e h =
    let (cs, spells) = IsUtf8-from_is_utf8 f e in
    subst (λ (bytes : List ℕ). IsUtf8 (flat_map (string_byte true) bytes)) spells.1 (all_chars cs spells.0)
field_written f false e h = all_bytes f (recursion_from_All (λ b. b < 256) f h)

pub strings_are_utf8 : StringsAreUtf8
strings_are_utf8 f h =
    ascii_then quote_mark _ (omega arith)
    (IsUtf8-append _ _ (field_written f (is_utf8 f) refl h) (ascii_then quote_mark [] (omega arith) IsUtf8-nil))

-- ---- no control character
abbrev is_visible : ℕ → Bool
is_visible b = not (is_control b)

byte_visible : (t : Bool) (b : ℕ) → b < 256 → list_all is_visible (string_byte t b) ≡ true
byte_visible true b l = written is_visible true 256 refl b l
byte_visible false b l = written is_visible false 256 refl b l

field_visible : (t : Bool) (f : List ℕ) → AllByRecursion (λ b. b < 256) f
    → list_all is_visible (flat_map (string_byte t) f ++ quote_mark ∷ []) ≡ true
field_visible t [] h = refl
field_visible t (b ∷ f) h =
    let rest = flat_map (string_byte t) f ++ quote_mark ∷ [] in
    ap (list_all is_visible) (append_assoc (string_byte t b) (flat_map (string_byte t) f) (quote_mark ∷ []))
    ∙ list_all-append is_visible (string_byte t b) rest
    ∙ rw (byte_visible t b h.0) (field_visible t f h.1)

no_control : (bytes : List ℕ) → list_all is_visible bytes ≡ true → AllByRecursion (λ b. is_control b ≡ false) bytes
no_control [] e = tt
no_control (b ∷ bytes) e =
    let p = and_parts _ _ e in (by (is_control b) p.0, no_control bytes p.1)
  where
    by : (c : Bool) → not c ≡ true → c ≡ false
    by true e = sym e
    by false e = refl

pub strings_have_no_controls : StringsHaveNoControls
strings_have_no_controls f h =
    All-from_recursion (λ b. is_control b ≡ false) (string_text f)
    (no_control (string_text f) (field_visible (is_utf8 f) f (recursion_from_All (λ b. b < 256) f h)))

-- bytes that are not UTF-8 fail the test
not_utf8 : (bytes : List ℕ) → ¬ (IsUtf8 bytes) → false ≡ is_utf8 bytes
not_utf8 bytes h = by (is_utf8 bytes) refl
  where
    by : (b : Bool) → is_utf8 bytes ≡ b → false ≡ b
    by true e = absurd (h (IsUtf8-from_is_utf8 bytes e))
    by false e = refl

-- a text is read of bytes exactly where they are UTF-8
pub utf8_read : (bytes : List ℕ) (r : Result (Bor (List ℕ)) Utf8Error)
    → MatchResult r (λ s. (s.now ≡ bytes) × IsUtf8 bytes) (λ e. ¬ (IsUtf8 bytes) × IsValidUpTo bytes (valid_up_to e))
    → is_ok r ≡ is_utf8 bytes
utf8_read bytes (Ok s) h = sym (is_utf8-from_IsUtf8 bytes h.1)
utf8_read bytes (Err e) h = not_utf8 bytes h.0
