-- What is opened is exactly the sealed texts.
use Rattle.std.proofs.Common.{◌≡◌, ℕ, ◌+◌, ◌-◌, ◌<◌, ◌≤◌, Bool, true, false, cond, List, [], ◌∷◌, ◌++◌, length, take, drop, codes, IfOk, Result, Ok, Err, refl, sym, ap, subst, ◌∙◌, arith}
use Rattle.std.specs.Prelude.{nat_eq, nat_lt}
use Rattle.std.specs.List.{starts_with}
use Rattle.std.specs.Str.{bytes_eq}
use Rattle.std.proofs.lemmas.Bool.{le-ltb}
use Rattle.std.proofs.lemmas.Bool.Decides.{Decides-eqb, nat_tests}
use Rattle.std.proofs.lemmas.List.{take_at, drop_at, append-nil, drop_more, take-append-drop, take-take, length-append}
use Rattle.std.proofs.lemmas.Slice.Eq.{bytes_eq-Decides, starts_is}
use Rattle.hh_faults.specs.declared.saved.SavedFault.{SavedFault}
use Rattle.hh_faults.specs.declared.saved.SavedFault.TheVariants as faults
use Rattle.sha2.specs.Sha256.{sha256}
use Rattle.sha2.proofs.Facts256.{length-sha256}
use Rattle.hh_saved.specs.Reading.{Reads}
use Rattle.hh_saved.specs.declared.format.Version.TheVariants.{Two}
use Rattle.hh_saved.specs.Spelling.{spelling_of}
use Rattle.hh_saved.proofs.Values.{one_spelling}
use Rattle.hh_seals.specs.declared.opening.Contents.{Contents}
use Rattle.hh_seals.specs.Laws.{OneDigestFits, OthersOfOneDigestCollide, SealedTextsHaveOneValue, ValuesHaveOneSealedText}
use Rattle.hh_seals.specs.Opening.{content_in, digest_in, decimals_in, opened_of}
use Rattle.hh_seals.specs.Sealing.{IsSealed, covered_bytes, max_decimals, sealed_text}

-- ---- what is opened is a sealed text

-- the first five bytes of a text that begins as a sealed one
first_five : (bytes : List ℕ) → starts_with nat_eq bytes (codes "HVY1") ≡ true → 4 < length bytes
    → take 5 bytes ≡ covered_bytes (decimals_in bytes) []
first_five bytes begins more =
    let front = (starts_is Decides-eqb bytes (codes "HVY1") _ refl).0 begins in
    let parts : bytes ≡ codes "HVY1" ++ (decimals_in bytes ∷ drop 5 bytes) =
    front ∙ ap (λ (t : List ℕ). codes "HVY1" ++ t) (drop_more bytes 4 0 more) in
    ap (take 5) parts

-- what its digest covers
pub content_is : (bytes : List ℕ) → starts_with nat_eq bytes (codes "HVY1") ≡ true → 36 < length bytes
    → content_in bytes ≡ covered_bytes (decimals_in bytes) (drop 5 (content_in bytes))
content_is bytes begins more =
    let five = take-take 5 (length bytes - 32) bytes (omega (arith, more)) ∙ first_five bytes begins (omega (arith, more)) in
    sym (take-append-drop 5 (content_in bytes)) ∙ ap (λ (t : List ℕ). t ++ drop 5 (content_in bytes)) five

-- a text that passes each test is sealed
sealed_from : (bytes : List ℕ) → starts_with nat_eq bytes (codes "HVY1") ≡ true → 36 < length bytes
    → bytes_eq (sha256 (content_in bytes)) (digest_in bytes) ≡ true → decimals_in bytes ≤ max_decimals
    → IsSealed bytes (decimals_in bytes) (drop 5 (content_in bytes))
sealed_from bytes begins more fits few =
    let covered = content_is bytes begins more in
    let digest = (bytes_eq-Decides _ _).0 fits in
    let parts : bytes ≡ content_in bytes ++ sha256 (content_in bytes) =
    sym (take-append-drop (length bytes - 32) bytes) ∙ ap (λ (t : List ℕ). content_in bytes ++ t) (sym digest) in
    record { few = few; text = parts ∙ ap (λ (t : List ℕ). t ++ sha256 t) covered }

-- what five tests make of x
abbrev tested : (a b c d e : Bool) → ℕ × List ℕ → Result (ℕ × List ℕ) SavedFault
tested a b c d e x =
    cond a (Err faults.Truncated) (cond b (cond c (Err faults.Truncated)
    (cond d (cond e (Err faults.BadDecimals) (Ok x)) (Err faults.Damaged))) (Err faults.BadMagic))

-- which of them were passed by what is opened
passed_all : (a b c d e : Bool) (x y : ℕ × List ℕ) → tested a b c d e x ≡ Ok y
    → (b ≡ true) × (c ≡ false) × (d ≡ true) × (e ≡ false) × (x ≡ y)
passed_all true b c d e x y is = absurd cc
passed_all false false c d e x y is = absurd cc
passed_all false true true d e x y is = absurd cc
passed_all false true false false e x y is = absurd cc
passed_all false true false true true x y is = absurd cc
passed_all false true false true false x y is = (refl, refl, refl, refl, cc)

-- a text that passes them is opened
all_passed : (a b c d e : Bool) (x : ℕ × List ℕ) → a ≡ false → b ≡ true → c ≡ false → d ≡ true → e ≡ false
    → tested a b c d e x ≡ Ok x
all_passed a b c d e x p q r s t = rw (p, q, r, s, t) refl

-- what is opened is sealed
pub is_found : (bytes : List ℕ) (d : ℕ) (s : List ℕ) → opened_of bytes ≡ Ok (d, s) → IsSealed bytes d s
unfolding opened_of
is_found bytes d s is =
    let p = passed_all (nat_lt (length bytes) 4) (starts_with nat_eq bytes (codes "HVY1")) (nat_lt (length bytes) 37)
    (bytes_eq (sha256 (content_in bytes)) (digest_in bytes)) (nat_lt 9 (decimals_in bytes))
    (decimals_in bytes, drop 5 (content_in bytes)) (d, s) is in
    let found = sealed_from bytes p.0 (grind (arith, nat_tests, p.1)) p.2 (grind (arith, nat_tests, p.3)) in
    subst (λ (x : ℕ × List ℕ). IsSealed bytes x.0 x.1) p.4 found

-- ---- a sealed text is opened

-- how long it is
pub sealed_length : (d : ℕ) (s : List ℕ) → length (sealed_text d s) ≡ length (covered_bytes d s) + 32
sealed_length d s =
    let parts = length-append (covered_bytes d s) (sha256 (covered_bytes d s)) in
    let digest = length-sha256 (covered_bytes d s) in
    omega (arith, parts, digest)

-- what its digest covers
pub content_of_sealed : (d : ℕ) (s : List ℕ) → content_in (sealed_text d s) ≡ covered_bytes d s
content_of_sealed d s =
    take_at (covered_bytes d s) (sha256 (covered_bytes d s)) _ (omega (arith, sealed_length d s))

-- its digest
pub digest_of_sealed : (d : ℕ) (s : List ℕ) → digest_in (sealed_text d s) ≡ sha256 (covered_bytes d s)
digest_of_sealed d s =
    drop_at (covered_bytes d s) (sha256 (covered_bytes d s)) _ (omega (arith, sealed_length d s))

-- it is opened, if its decimals are few
opened_again : (d : ℕ) (s : List ℕ) → d ≤ max_decimals → opened_of (sealed_text d s) ≡ Ok (d, s)
unfolding opened_of
opened_again d s few =
    let long : 36 < length (sealed_text d s) = omega (arith, sealed_length d s) in
    let begins : starts_with nat_eq (sealed_text d s) (codes "HVY1") ≡ true =
    (starts_is Decides-eqb (sealed_text d s) (codes "HVY1") _ refl).1 (d ∷ s ++ sha256 (covered_bytes d s)) refl in
    let content = content_of_sealed d s in
    let fits : bytes_eq (sha256 (content_in (sealed_text d s))) (digest_in (sealed_text d s)) ≡ true =
    (bytes_eq-Decides _ _).1 (ap sha256 content ∙ sym (digest_of_sealed d s)) in
    all_passed (nat_lt (length (sealed_text d s)) 4) _ (nat_lt (length (sealed_text d s)) 37) _ (nat_lt 9 d)
    (d, drop 5 (content_in (sealed_text d s))) (le-ltb _ _ (omega (arith, long))) begins (le-ltb _ _ (omega (arith, long)))
    fits (le-ltb 9 d few) ∙ ap (λ (t : List ℕ). Ok (d, drop 5 t)) content

-- a sealed text is opened
pub sealed_again : (bytes : List ℕ) (d : ℕ) (s : List ℕ) → IsSealed bytes d s → opened_of bytes ≡ Ok (d, s)
sealed_again bytes d s is = ap opened_of is.text ∙ opened_again d s is.few

-- what was read so is sealed
pub found_in : (bytes : List ℕ) (r : Result Contents SavedFault)
    → Reads (λ (c : Contents). (c.decimals, c.spelling.now)) r (opened_of bytes)
    → IfOk r (λ (c : Contents). IsSealed bytes c.decimals c.spelling.now)
found_in bytes (Ok c) is = is_found bytes c.decimals c.spelling.now is
found_in bytes (Err f) is = tt

-- ---- laws

-- what is sealed twice is one
one_content : (bytes : List ℕ) (d e : ℕ) (s t : List ℕ) → IsSealed bytes d s → IsSealed bytes e t → (d ≡ e) × (s ≡ t)
one_content bytes d e s t a b =
    let covered : covered_bytes d s ≡ covered_bytes e t =
    sym (content_of_sealed d s) ∙ ap content_in (sym a.text ∙ b.text) ∙ content_of_sealed e t in
    (cc, cc)

-- a sealed text has one value
pub one_value : SealedTextsHaveOneValue
one_value bytes d e v w a b =
    let same = one_content bytes d e a.spelling b.spelling a.sealed b.sealed in
    let texts = append-nil (spelling_of Two v) ∙ sym a.spelled.spelled ∙ same.1 ∙ b.spelled.spelled in
    (same.0, (one_spelling Two Two v w [] a.spelled.saved b.spelled.saved texts).1)

-- a value has one sealed text
pub one_text : ValuesHaveOneSealedText
one_text a b d v x y =
    let spelling = x.spelled.spelled ∙ sym y.spelled.spelled in
    x.sealed.text ∙ ap (sealed_text d) spelling ∙ sym y.sealed.text

-- its digest is that of what it covers
digest_is : (bytes : List ℕ) (d : ℕ) (s : List ℕ) → IsSealed bytes d s → digest_in bytes ≡ sha256 (covered_bytes d s)
digest_is bytes d s is = ap digest_in is.text ∙ digest_of_sealed d s

-- texts that cover the same are one
pub one_digest : OneDigestFits
one_digest a b d e s t x y same = x.text ∙ ap (λ (t : List ℕ). t ++ sha256 t) same ∙ sym y.text

-- others with one digest collide
pub others_collide : OthersOfOneDigestCollide
others_collide a b d e s t x y same other = record {
  differ = λ is. other (one_digest a b d e s t x y is);
  digests = sym (digest_is a d s x) ∙ same ∙ digest_is b e t y;
}
