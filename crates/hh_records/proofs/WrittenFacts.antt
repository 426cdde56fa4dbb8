-- The digits of a weight, as the reader of records reads them.
use Rattle.std.proofs.Common.{◌≡◌, ℕ, ◌+◌, ◌-◌, ◌*◌, ◌<◌, ◌≤◌, ◌∙◌, true, false, List, [], ◌∷◌, length, map, refl, ap, arith}
use Rattle.std.specs.Prelude.{◌==◌, fold, nat_le}
use Rattle.std.specs.Fmt.{decimal}
use Rattle.std.specs.Int.Digits.{AllBelowBase, digits_of, number_from_digits_after}
use Rattle.std.specs.List.{list_all, list_any}
use Rattle.std.proofs.lemmas.Bool.{ne_eqb}
use Rattle.std.proofs.lemmas.Bool.Decides.{nat_tests}
use Rattle.std.proofs.lemmas.Fmt.{decimal-digits_of, decimal_nonempty}
use Rattle.std.proofs.lemmas.Int.Digits.{all_below_base_digits_of, length-digits_of-le, number_digits_of}
use Rattle.std.proofs.lemmas.List.{length-map}
use Rattle.csv.specs.Writing.{default_writer, needs_byte}
use Rattle.hh_stream.specs.Weights.{max_total}
use Rattle.hh_stream.specs.Digits.{is_digit, value_of}
use Rattle.hh_records.specs.Streams.{is_weight}

-- ---- the digits of a weight
plain_digit : (d : ℕ) → d < 10 → needs_byte default_writer (48 + d) ≡ false
plain_digit d l =
    let comma = ne_eqb (48 + d) 44 (λ e. omega (arith, e)) in
    let quote = ne_eqb (48 + d) 34 (λ e. omega (arith, e)) in
    let return = ne_eqb (48 + d) 13 (λ e. omega (arith, e)) in
    let feed = ne_eqb (48 + d) 10 (λ e. omega (arith, e)) in
    rw (comma, quote, return, feed) refl

plain_digits : (ds : List ℕ) → AllBelowBase 10 ds → list_any (needs_byte default_writer) (map (λ d. 48 + d) ds) ≡ false
plain_digits [] h = refl
plain_digits (d ∷ ds) h = rw (plain_digit d h.0) (plain_digits ds h.1)

is_digit-digit : (d : ℕ) → d < 10 → is_digit (48 + d) ≡ true
is_digit-digit d l =
    let low : nat_le 48 (48 + d) ≡ true = grind (arith, nat_tests) in
    let high : nat_le (48 + d) 57 ≡ true = grind (arith, nat_tests, l) in rw (low, high) refl

all_digits : (ds : List ℕ) → AllBelowBase 10 ds → list_all is_digit (map (λ d. 48 + d) ds) ≡ true
all_digits [] h = refl
all_digits (d ∷ ds) h = rw (is_digit-digit d h.0) (all_digits ds h.1)

value_after : (a : ℕ) (ds : List ℕ)
    → fold (λ a d. a * 10 + (d - 48)) a (map (λ d. 48 + d) ds) ≡ number_from_digits_after 10 a ds
value_after a [] = refl
value_after a (d ∷ ds) =
    let step : a * 10 + (48 + d - 48) ≡ a * 10 + d = omega arith in
    ap (λ n. fold (λ a d. a * 10 + (d - 48)) n (map (λ d. 48 + d) ds)) step ∙ value_after (a * 10 + d) ds

-- what the digits of a weight are to the reader of records
pub record IsWritten (n : ℕ) : Type 0 where
  pub plain : list_any (needs_byte default_writer) (decimal n) ≡ false
  pub weight : is_weight (decimal n) ≡ true
  pub value : value_of (decimal n) ≡ n

pub written : (n : ℕ) → 0 < n → n ≤ max_total → IsWritten n
written n some fits =
    let ds = digits_of 10 n in
    let below = all_below_base_digits_of 10 n (omega arith) in
    let text = decimal-digits_of n some (omega (arith, fits)) in
    let none : (length (decimal n) == 0) ≡ false =
    ne_eqb (length (decimal n)) 0 (λ e. omega (arith, e, decimal_nonempty n (omega (arith, fits)))) in
    let long : length (decimal n) ≤ 20 =
    rw (text, length-map ds (λ d. 48 + d)) (length-digits_of-le 10 20 n (omega arith) (omega (arith, fits))) in
    let few : nat_le (length (decimal n)) 20 ≡ true = grind (arith, nat_tests, long) in
    let digits : list_all is_digit (decimal n) ≡ true = rw text (all_digits ds below) in
    record {
      plain = rw text (plain_digits ds below);
      weight = rw (none, few, digits) refl;
      value = rw text (value_after 0 ds ∙ number_digits_of 10 n (omega arith));
    }
