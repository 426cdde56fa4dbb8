-- A field that is read is the field that was written, and what was written is read again.
use Rattle.std.proofs.Common.{◌≡◌, ℕ, ◌+◌, ◌^◌, ◌<◌, ◌≤◌, ◌%◌, Bool, Decides, true, false, cond, leb, ltb, List, [], ◌∷◌, ◌++◌, length, get_or, take, drop, Result, Ok, Err, refl, sym, ap, ◌∙◌, append_assoc, arith, inl, inr, ◌&&◌}
use Rattle.std.specs.Int.{Width, w8, w16, w32, w64, byte_len, from_be_bytes, to_be_bytes}
use Rattle.std.proofs.lemmas.Bool.{cases_lt, ltb-false, le-ltb}
use Rattle.std.proofs.lemmas.Bool.Decides.{nat_tests, Decides-and}
use Rattle.std.proofs.lemmas.List.{take_at, drop_at, take-append-drop, length-append, length-take, get_or-drop, get_or-take, get_or_past}
use Rattle.std.proofs.lemmas.Nat.{be_bytes_2, be_bytes_4, be_bytes_8, from_be_bytes-to_be_bytes_2, from_be_bytes-to_be_bytes_4, from_be_bytes-to_be_bytes_8}
use Rattle.hh_saved.specs.declared.format.Version.{Version}
use Rattle.hh_saved.specs.declared.format.Version.TheVariants.{One, Two}
use Rattle.hh_faults.specs.declared.saved.SavedFault.{SavedFault}
use Rattle.hh_saved.specs.Spelling.{len_width}
use Rattle.hh_saved.specs.Reading.{◌>>=◌, number_at, number_where, bytes_at}

-- each number is a byte's
abbrev pub IsBytes : List ℕ → Type 0
IsBytes bytes = (i : ℕ) → get_or bytes i 0 < 256

-- so are those after the first ones
pub IsBytes-drop : (n : ℕ) (bytes : List ℕ) → IsBytes bytes → IsBytes (drop n bytes)
IsBytes-drop n bytes h i = rw get_or-drop (h (n + i))

-- and the first ones
pub IsBytes-take : (n : ℕ) (bytes : List ℕ) → IsBytes bytes → IsBytes (take n bytes)
IsBytes-take n bytes h i =
    elim (cases_lt i n) [
      | inl lt ↦ rw (get_or-take n bytes i 0 lt) (h i)
      | inr le ↦ rw (get_or_past (take n bytes) i 0 (omega (arith, length-take n bytes))) (omega arith)
    ]

-- ---- steps

-- the value of a step that did not fail
pub bind_ok : {A B : Type 0} (r : Result A SavedFault) (f : A → Result B SavedFault) (y : B) → (r >>= f) ≡ Ok y
    → (x : A) × (r ≡ Ok x) × (f x ≡ Ok y)
bind_ok (Ok x) f y e = (x, refl, e)
bind_ok (Err d) f y e = absurd cc

-- a test that did not refuse
pub passed : {A : Type 0} (b : Bool) (d : SavedFault) (x y : A) → cond b (Ok x) (Err d) ≡ Ok y → (b ≡ true) × (x ≡ y)
passed true d x y e = (refl, cc)
passed false d x y e = absurd cc

-- a test for a refusal that did not come
pub not_refused : {A : Type 0} (b : Bool) (d : SavedFault) (x y : A) → cond b (Err d) (Ok x) ≡ Ok y
    → (b ≡ false) × (x ≡ y)
not_refused true d x y e = absurd cc
not_refused false d x y e = (refl, cc)

-- a result at the faults' type
abbrev done : {A : Type 0} → A → Result A SavedFault
done x = Ok x

-- what was read is one value
pub ok_is : {A : Type 0} (x y : A) → done x ≡ done y → x ≡ y
ok_is x y e = cc

-- what the test of an order tells
pub Decides-leb : (a b : ℕ) → Decides (leb a b) (a ≤ b)
Decides-leb a b = (λ e. grind (arith, nat_tests), λ le. grind (arith, nat_tests))

-- what the tests of both bounds tell
pub Decides-bounds : (a b n : ℕ) → Decides (leb a n && leb n b) ((a ≤ n) × (n ≤ b))
Decides-bounds a b n = Decides-and _ _ (Decides-leb a n) (Decides-leb n b)

-- what a reader took from the front
pub record Takes (bytes text rest : List ℕ) : Type 0 where
  pub parts : bytes ≡ text ++ rest
  pub rest_fits : IsBytes rest

-- one text read after another
pub Takes-then : (a x b y c : List ℕ) → Takes a x b → Takes b y c → Takes a (x ++ y) c
Takes-then a x b y c p q =
    record { parts = p.parts ∙ ap (λ (t : List ℕ). x ++ t) q.parts ∙ sym (append_assoc x y c); rest_fits = q.rest_fits }

-- ---- numbers

-- a number below the limit has so many bytes, and these tell it
pub record IsWide (w : Width) (limit : ℕ) : Type 0 where
  pub len : (n : ℕ) → length (to_be_bytes w n) ≡ byte_len w
  pub back : (bytes : List ℕ) → length bytes ≡ byte_len w → IsBytes bytes
      → to_be_bytes w (from_be_bytes w bytes) ≡ bytes
  pub again : (n : ℕ) → n < limit → from_be_bytes w (to_be_bytes w n) ≡ n
  pub below : (bytes : List ℕ) → IsBytes bytes → from_be_bytes w bytes < limit

-- a byte's number
one_byte : (n : ℕ) → n < 256 → n % 256 ≡ n
one_byte n lt = omega arith

-- one byte is spelled by its number
one_byte_back : (bytes : List ℕ) → length bytes ≡ 1 → IsBytes bytes → to_be_bytes w8 (from_be_bytes w8 bytes) ≡ bytes
one_byte_back [] len fits = absurd cc
one_byte_back (b ∷ []) len fits = ap (λ (n : ℕ). n ∷ []) (one_byte b (fits 0))
one_byte_back (b ∷ c ∷ bytes) len fits = absurd (omega arith)

-- numbers of 1 byte
pub wide8 : IsWide w8 (2 ^ 8)
wide8 = record {
  len = λ n. refl;
  back = one_byte_back;
  again = λ n lt. one_byte n lt;
  below = λ bytes fits. omega (arith, fits 0);
}

-- of 2
pub wide16 : IsWide w16 (2 ^ 16)
wide16 = record {
  len = λ n. refl;
  back = λ bytes len fits. be_bytes_2 bytes _ len fits refl;
  again = λ n lt. from_be_bytes-to_be_bytes_2 n lt;
  below = λ bytes fits. omega (arith, fits 0, fits 1);
}

-- of 4
pub wide32 : IsWide w32 (2 ^ 32)
wide32 = record {
  len = λ n. refl;
  back = λ bytes len fits. be_bytes_4 bytes _ len fits refl;
  again = λ n lt. from_be_bytes-to_be_bytes_4 n lt;
  below = λ bytes fits. omega (arith, fits 0, fits 1, fits 2, fits 3);
}

-- of 8
pub wide64 : IsWide w64 (2 ^ 64)
wide64 = record {
  len = λ n. refl;
  back = λ bytes len fits. be_bytes_8 bytes _ len fits refl;
  again = λ n lt. from_be_bytes-to_be_bytes_8 n lt;
  below = λ bytes fits. omega (arith, fits 0, fits 1, fits 2, fits 3, fits 4, fits 5, fits 6, fits 7);
}

-- the length of a key in each version
abbrev pub len_limit : Version → ℕ
len_limit One = 2 ^ 8
len_limit Two = 2 ^ 16

-- the length of a key
pub wide_len : (version : Version) → IsWide (len_width version) (len_limit version)
wide_len One = wide8
wide_len Two = wide16

-- a number that is read is spelled so
pub number_takes : (w : Width) (limit : ℕ) (wide : IsWide w limit) (bytes : List ℕ) (x : ℕ × List ℕ) → IsBytes bytes
    → number_at w bytes ≡ Ok x → Takes bytes (to_be_bytes w x.0) x.1 × (x.0 < limit)
number_takes w limit wide bytes x fits e =
    let front = take (byte_len w) bytes in
    let g = not_refused _ _ _ x e in
    let long : byte_len w ≤ length bytes = ltb-false _ _ g.0 in
    let front_fits = IsBytes-take (byte_len w) bytes fits in
    let is : to_be_bytes w (from_be_bytes w front) ≡ front =
    wide.back front (omega (arith, length-take (byte_len w) bytes)) front_fits in
    rw (← g.1) (
      record {
        parts = rw is (sym (take-append-drop (byte_len w) bytes));
        rest_fits =
            IsBytes-drop (byte_len w) bytes fits;
      },
      wide.below front front_fits,
    )

-- and a number that is spelled so is read
pub number_again : (w : Width) (limit : ℕ) (wide : IsWide w limit) (n : ℕ) (rest : List ℕ) → n < limit
    → number_at w (to_be_bytes w n ++ rest) ≡ Ok (n, rest)
number_again w limit wide n rest lt =
    let len = wide.len n in
    let long : ltb (length (to_be_bytes w n ++ rest)) (byte_len w) ≡ false =
    le-ltb _ _ (omega (arith, length-append (to_be_bytes w n) rest)) in
    rw (
      long,
      take_at (to_be_bytes w n) rest (byte_len w) len,
      drop_at (to_be_bytes w n) rest (byte_len w) len,
      wide.again n lt,
    ) refl

-- a number that is read and passes a test
pub where_takes : (w : Width) (limit : ℕ) (wide : IsWide w limit) (test : ℕ → Bool) (fault : SavedFault)
    (bytes : List ℕ) (x : ℕ × List ℕ) → IsBytes bytes → number_where w test fault bytes ≡ Ok x
    → Takes bytes (to_be_bytes w x.0) x.1 × (x.0 < limit) × (test x.0 ≡ true)
where_takes w limit wide test fault bytes x fits e =
    let b = bind_ok _ _ x e in
    let g = passed _ _ _ x b.2 in
    let t = number_takes _ _ wide _ _ fits b.1 in
    rw (← g.1)
    (t.0, t.1, g.0)

-- a number that is spelled so and passes is read
pub where_again : (w : Width) (limit : ℕ) (wide : IsWide w limit) (test : ℕ → Bool) (fault : SavedFault) (n : ℕ)
    (rest : List ℕ) → n < limit → test n ≡ true → number_where w test fault (to_be_bytes w n ++ rest) ≡ Ok (n, rest)
where_again w limit wide test fault n rest lt pass = rw (number_again _ _ wide n rest lt, pass) refl

-- ---- bytes

-- so many bytes that are read
pub bytes_take : (len : ℕ) (bytes : List ℕ) (x : List ℕ × List ℕ) → IsBytes bytes → bytes_at len bytes ≡ Ok x
    → Takes bytes x.0 x.1 × (length x.0 ≡ len) × IsBytes x.0
bytes_take len bytes x fits e =
    let g = not_refused _ _ _ x e in
    let long : len ≤ length bytes = ltb-false _ _ g.0 in
    rw (← g.1) (
      record { parts = sym (take-append-drop len bytes); rest_fits = IsBytes-drop len bytes fits },
      omega
          (arith, length-take len bytes),
      IsBytes-take len bytes fits,
    )

-- so many bytes are read
pub bytes_again : (len : ℕ) (text rest : List ℕ) → length text ≡ len → bytes_at len (text ++ rest) ≡ Ok (text, rest)
bytes_again len text rest is =
    let long : ltb (length (text ++ rest)) len ≡ false = le-ltb _ _ (omega (arith, length-append text rest)) in
    rw (long, take_at text rest len is, drop_at text rest len is) refl
