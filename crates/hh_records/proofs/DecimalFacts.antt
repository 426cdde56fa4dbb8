-- Digits after a point, written and read.
use Rattle.std.proofs.Common.{◌≡◌, ◌<◌, ◌≤◌, ◌+◌, ◌-◌, ◌*◌, ◌^◌, ◌∷◌, ◌++◌, ◌∙◌, ℕ, zero, suc, Bool, true, false, List, [], length, take, drop, Option, Some, None, inl, inr, refl, sym, ap, arith}
use Rattle.std.specs.Prelude.{◌==◌, ◌&&◌, ◌/◌, ◌%◌, fold, min, nat_le, not, option_map, MatchOption, if◌then◌else◌}
use Rattle.std.specs.Fmt.{decimal}
use Rattle.std.specs.List.{list_all}
use Rattle.std.proofs.lemmas.Bool.{and_right, ne_eqb, or_right}
use Rattle.std.proofs.lemmas.Bool.Decides.{eqb_tells, leb_tells, nat_tests}
use Rattle.std.proofs.lemmas.Nat.{div-add-mod', mod-mul-add, mod_below, mul-le, pow-add}
use Rattle.std.proofs.Math.Nat.{div-div-eq-div-mul, mul_assoc, pow-le-pow_right}
use Rattle.std.proofs.Math.Seq.{drop-append-add, take-append_seam}
use Rattle.std.proofs.lemmas.Fmt.{decimal_digit}
use Rattle.hh_stream.specs.Weights.{max_total}
use Rattle.hh_stream.specs.Digits.{is_digit, is_number, value_of}
use Rattle.hh_records.specs.Decimals.{is_whole, last_digits, point_from, units_at, units_of}
use Rattle.hh_records.specs.Laws.{PrintedNumbersAreRead}
use Rattle.hh_records.specs.Streams.{field_weight}
use Rattle.hh_records.proofs.WrittenFacts.{written}

-- ---- digits and points
pub second : (a b : Bool) → (a && b) ≡ true → b ≡ true
second true b e = e
second false b e = absurd (cc e)

first : (a b : Bool) → (a && b) ≡ true → a ≡ true
first true b e = refl
first false b e = absurd (cc e)

-- digits have no point
digits-no-point : (i : ℕ) (f : List ℕ) → list_all is_digit f ≡ true → point_from i f ≡ None
digits-no-point i [] h = refl
digits-no-point i (b ∷ f) h = elim (eqb_tells b 46) [
  | inl (e, is) ↦ absurd (cc (rw is at h))
  | inr (e, _) ↦ rw e (digits-no-point (i + 1) f (second (is_digit b) (list_all is_digit f) h))
]

number-digits : (most : ℕ) (f : List ℕ) → is_number most f ≡ true → list_all is_digit f ≡ true
number-digits most f h = second _ (list_all is_digit f) h

-- a number has no point
-- a text of 1 to so many digits is a number
pub is-number : (most : ℕ) (f : List ℕ) → false ≡ (length f == 0) → length f ≤ most → list_all is_digit f ≡ true
    → is_number most f ≡ true
is-number most f some fits digits =
    let few : nat_le (length f) most ≡ true = grind (arith, nat_tests) in
    rw (← some, few, digits) refl

pub number-no-point : (most : ℕ) (f : List ℕ) → is_number most f ≡ true → point_from 0 f ≡ None
number-no-point most f h = digits-no-point 0 f (number-digits most f h)

-- no number has no digits
number-none : (f : List ℕ) → is_number 0 f ≡ false
number-none [] = refl
number-none (b ∷ f) =
    let long : nat_le (length (b ∷ f)) 0 ≡ false = grind (arith, nat_tests) in
    rw (long, and_right (not (length (b ∷ f) == 0)) false refl) refl

-- with no digits after a point a weight is a whole number
pub units-whole : (f : List ℕ) → units_of 0 (Some f) ≡ field_weight (Some f)
units-whole f = by (point_from 0 f) refl
  where
    by : (o : Option ℕ) → point_from 0 f ≡ o → units_at 0 f o ≡ field_weight (Some f)
    by None e =
        let one : value_of f * 10 ^ 0 ≡ value_of f = omega arith in
        rw one refl
    by (Some i) e = elim (is_number 20 f) as (λ b. is_number 20 f ≡ b
        → units_at 0 f (Some i) ≡ (if b then Some (value_of f) else None)) [
          | true ↦ λ h. absurd (cc (rw (number-no-point 20 f h) at e))
          | false ↦ λ h. rw (number-none (drop (i + 1) f), and_right (is_whole (take i f)) false refl) refl
        ] refl

-- ---- numbers that are cut off at a limit
pub cut-scaled : (v p limit : ℕ) → 0 < p → min (min v limit * p) limit ≡ min (v * p) limit
cut-scaled v p limit some = elim (leb_tells v limit) [
  | inl (e, le) ↦ let same : min v limit ≡ v = grind (arith, nat_tests, le) in rw same refl
  | inr (e, lt) ↦
      let same : min v limit ≡ limit = grind (arith, nat_tests, lt) in
      let long : limit * 1 ≤ limit * p = mul-le limit 1 limit p (omega arith) (omega (arith, some)) in
      let longer : limit * 1 ≤ v * p = mul-le limit 1 v p (omega (arith, lt)) (omega (arith, some)) in
      rw same (grind (arith, nat_tests, long, longer))
]

ten-more : (i : ℕ) → 10 ^ (i + 1) ≡ 10 ^ i * 10
ten-more i = pow-add 10 i 1

ten-next : (i : ℕ) → 10 ^ suc i ≡ 10 ^ i * 10
ten-next i = let same : suc i ≡ i + 1 = omega arith in ap (λ j. 10 ^ j) same ∙ ten-more i

pub cut-more : (v i limit : ℕ) → min (min (v * 10 ^ i) limit * 10) limit ≡ min (v * 10 ^ (i + 1)) limit
cut-more v i limit =
    cut-scaled (v * 10 ^ i) 10 limit (omega arith)
    ∙ ap (λ n. min n limit) (mul_assoc v (10 ^ i) 10 ∙ ap (λ p. v * p) (sym (ten-more i)))

pub one-fewer : (n i : ℕ) → n / 10 ^ i / 10 ≡ n / 10 ^ (i + 1)
one-fewer n i = div-div-eq-div-mul n (10 ^ i) 10 ∙ ap (λ p. n / p) (sym (ten-more i))

-- two numbers, each cut off, and their sum
pub cut-sum : (a b limit : ℕ) → min (min a limit + min b limit) limit ≡ min (a + b) limit
cut-sum a b limit = elim (leb_tells a limit) [
  | inl (e, le) ↦ elim (leb_tells b limit) [
    | inl (f, le2) ↦
        let one : min a limit ≡ a = grind (arith, nat_tests, le) in
        let two : min b limit ≡ b = grind (arith, nat_tests, le2) in
        rw (one, two) refl
    | inr (f, lt2) ↦
        let two : min b limit ≡ limit = grind (arith, nat_tests, lt2) in
        rw two (grind (arith, nat_tests, lt2))
  ]
  | inr (e, lt) ↦
      let one : min a limit ≡ limit = grind (arith, nat_tests, lt) in
      rw one (grind (arith, nat_tests, lt))
]

ten-grows : (i d : ℕ) → i ≤ d → 10 ^ i ≤ 10 ^ d
ten-grows i d h = pow-le-pow_right (omega arith) (omega (arith, h))

ten-some : (d : ℕ) → 0 < 10 ^ d
ten-some d = let one = ten-grows 0 d (omega arith) in omega (arith, one)

-- ---- a weight's field
-- digits alone
pub units-number : (d limit whole : ℕ) (f : List ℕ) → is_number 20 f ≡ true → whole ≡ min (value_of f) limit
    → ◌≡◌ {A = Option ℕ} (Some (min (whole * 10 ^ d) limit)) (option_map (λ u. min u limit) (units_of d (Some f)))
units-number d limit whole f digits is =
    rw (number-no-point 20 f digits, digits, is) (ap Some (cut-scaled (value_of f) (10 ^ d) limit (ten-some d)))

-- digits alone, where no point may come
pub units-none : (limit : ℕ) (f : List ℕ) (r : Option ℕ)
    → MatchOption r (is_number 20 f ≡ false) (λ n. (is_number 20 f ≡ true) × (n ≡ min (value_of f) limit))
    → r ≡ option_map (λ u. min u limit) (units_of 0 (Some f))
units-none limit f None h = rw (units-whole f, h) refl
units-none limit f (Some n) h = rw (units-whole f, h.0, h.1) refl

-- digits before a point and after it
pub units-pointed : (d limit i whole behind : ℕ) (f : List ℕ) → point_from 0 f ≡ Some i
    → is_whole (take i f) ≡ true → whole ≡ min (value_of (take i f)) limit
    → is_number d (drop (i + 1) f) ≡ true → behind ≡ min (value_of (drop (i + 1) f)) limit
    → ◌≡◌ {A = Option ℕ}
    (Some (min (min (whole * 10 ^ d) limit + min (behind * 10 ^ (d - length (drop (i + 1) f))) limit) limit))
    (option_map (λ u. min u limit) (units_of d (Some f)))
units-pointed d limit i whole behind f point before is digits is2 =
    let less = d - length (drop (i + 1) f) in
    let v = value_of (take i f) in
    let w = value_of (drop (i + 1) f) in
    let one = cut-scaled v (10 ^ d) limit (ten-some d) in
    let two = cut-scaled w (10 ^ less) limit (ten-some less) in
    rw (point, before, digits, is, is2, one, two) (ap Some (cut-sum (v * 10 ^ d) (w * 10 ^ less) limit))

-- ---- a number, printed and read
point-after : (i : ℕ) (ds rest : List ℕ) → list_all is_digit ds ≡ true
    → point_from i (ds ++ 46 ∷ rest) ≡ Some (i + length ds)
point-after i [] rest h = let same : i ≡ i + 0 = omega arith in ap Some same
point-after i (d ∷ ds) rest h = elim (eqb_tells d 46) [
  | inl (e, is) ↦ absurd (cc (rw is at h))
  | inr (e, _) ↦
      let next : i + 1 + length ds ≡ i + length (d ∷ ds) = omega arith in
      rw e (point-after (i + 1) ds rest (second (is_digit d) (list_all is_digit ds) h) ∙ ap Some next)
]

value-from : (a : ℕ) (ds : List ℕ) → fold (λ a d. a * 10 + (d - 48)) a ds ≡ a * 10 ^ length ds + value_of ds
value-from a [] = omega arith
value-from a (d ∷ ds) =
    let e = d - 48 in
    let p = 10 ^ length ds in
    let more : 10 ^ suc (length ds) ≡ p * 10 = ten-next (length ds) in
    let split : (a * 10 + e) * p + value_of ds ≡ a * (p * 10) + ((0 + e) * p + value_of ds) = grind arith in
    value-from (a * 10 + e) ds ∙ split
    ∙ rw more (ap (λ v. a * (p * 10) + v) (sym (value-from (0 + e) ds)))

last-long : (d n : ℕ) → length (last_digits d n) ≡ d
unfolding last_digits
last-long zero n = refl
last-long (suc d) n = let h = last-long d n in omega (arith, h)

last-are-digits : (d n : ℕ) → list_all is_digit (last_digits d n) ≡ true
unfolding last_digits
last-are-digits zero n = refl
last-are-digits (suc d) n =
    let q = n / 10 ^ d % 10 in
    let below : q < 10 = mod_below (n / 10 ^ d) 10 (omega arith) in
    let low : nat_le 48 (48 + q) ≡ true = grind (arith, nat_tests) in
    let high : nat_le (48 + q) 57 ≡ true = grind (arith, nat_tests, below) in
    rw (low, high) (last-are-digits d n)

mod-split : (n d : ℕ) → n / 10 ^ d % 10 * 10 ^ d + n % 10 ^ d ≡ n % 10 ^ suc d
mod-split n d =
    let p = 10 ^ d in
    let q = n / p in
    let x = q % 10 in
    let r = n % p in
    let more : 10 ^ suc d ≡ p * 10 = ten-next d in
    let digit : x ≤ 9 = let below = mod_below q 10 (omega arith) in omega (arith, below) in
    let left : r < p = mod_below n p (ten-some d) in
    let most : x * p ≤ 9 * p = mul-le x p 9 p digit (omega arith) in
    let fits : x * p + r < p * 10 = omega (arith, left, most) in
    let parts : q / 10 * (p * 10) + (x * p + r) ≡ n =
    let whole : q / 10 * 10 + x ≡ q = div-add-mod' q 10 in
    let tens : q / 10 * (p * 10) + (x * p + r) ≡ (q / 10 * 10 + x) * p + r = grind arith in
    tens ∙ ap (λ m. m * p + r) whole ∙ div-add-mod' n p in
    rw more (sym (mod-mul-add (q / 10) (p * 10) (x * p + r) fits) ∙ ap (λ m. m % (p * 10)) parts)

-- the last digits of a number write what is left of it
last-value : (d n : ℕ) → value_of (last_digits d n) ≡ n % 10 ^ d
unfolding last_digits
last-value zero n = omega arith
last-value (suc d) n =
    let q = n / 10 ^ d % 10 in
    let start : 0 * 10 + (48 + q - 48) ≡ q = omega arith in
    ap (λ a. fold (λ a d. a * 10 + (d - 48)) a (last_digits d n)) start
    ∙ value-from q (last_digits d n)
    ∙ rw (last-long d n, last-value d n) (mod-split n d)

decimal-read : (n : ℕ) → n ≤ max_total → (is_number 20 (decimal n) ≡ true) × (value_of (decimal n) ≡ n)
decimal-read n fits = elim (eqb_tells n 0) [
  | inl (e, is) ↦ rw (is, decimal_digit 0 (omega arith)) (refl, refl)
  | inr (e, some) ↦ let w = written n (omega (arith, some)) fits in (w.weight, w.value)
]

pub printed_numbers_are_read : PrintedNumbersAreRead
printed_numbers_are_read zero n fits =
    let (number, value) = decimal-read n fits in
    units-whole (decimal n) ∙ rw (number, value) refl
printed_numbers_are_read (suc c) n fits =
    let d = suc c in
    let p = 10 ^ d in
    let w = n / p in
    let parts = div-add-mod' n p in
    let long : w * 1 ≤ w * p = mul-le w 1 w p (omega arith) (let some = ten-some d in omega (arith, some)) in
    let (number, value) = decimal-read w (omega (arith, parts, long, fits)) in
    let ds = decimal w in
    let ls = last_digits d n in
    let point : point_from 0 (ds ++ 46 ∷ ls) ≡ Some (length ds) =
    point-after 0 ds ls (number-digits 20 ds number) ∙ ap Some (omega arith) in
    let before : take (length ds) (ds ++ 46 ∷ ls) ≡ ds = take-append_seam ds (46 ∷ ls) in
    let behind : drop (length ds + 1) (ds ++ 46 ∷ ls) ≡ ls = drop-append-add ds (46 ∷ ls) 1 in
    let size = last-long d n in
    let some : (length ls == 0) ≡ false = ne_eqb (length ls) 0 (λ e. omega (arith, e, size)) in
    let few : nat_le (length ls) d ≡ true = grind (arith, nat_tests, size) in
    let digits : is_number d ls ≡ true = rw (some, few, last-are-digits d n) refl in
    let none : d - length ls ≡ 0 = omega (arith, size) in
    rw (point, before, behind, or_right (length ds == 0) (is_number 20 ds) number, digits, value, last-value d n, none)
    (ap Some (omega (arith, parts)))
