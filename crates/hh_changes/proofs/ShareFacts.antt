-- One share less another, rounded down.
use Rattle.std.proofs.Common.{◌≡◌, ◌∙◌, ℕ, ◌+◌, ◌*◌, ◌<◌, ◌≤◌, inl, inr, Bool, true, false, ap, subst, sym, arith, refl}
use Rattle.std.specs.Prelude.{nat_lt, if◌then◌else◌}
use Rattle.std.proofs.Math.Nat.{add-mul, mul-lt-mul_of_pos_right, mul_assoc, mul_comm}
use Rattle.std.proofs.lemmas.Bool.Decides.{eqb_tells, nat_tests}
use Rattle.std.proofs.lemmas.Nat.{div-add-mod', mod_below}
use Rattle.hh_rows.specs.Printed.{millionths}
use Rattle.hh_changes.specs.Laws.{SharesAreRoundedOutward}
use Rattle.hh_changes.specs.Printed.{left_over, whole}

-- the whole is not 0
pub some-whole : (n : ℕ) → 0 < whole n
some-whole n = elim (eqb_tells n 0) [
  | inl (e, none) ↦ rw e (omega arith)
  | inr (e, some) ↦ rw e (omega (arith, some))
]

-- a weight's millionths of its total, and what is left over
parts : (n w : ℕ) → w ≤ n → millionths n w * whole n + left_over n w ≡ w * 1000000
parts n w h = elim (eqb_tells n 0) [
  | inl (e, none) ↦ rw e (omega (arith, h, none))
  | inr (e, _) ↦ rw e (div-add-mod' (w * 1000000) n)
]

-- a sum, times a number
times : (q n r m : ℕ) → (q * n + r) * m ≡ q * (n * m) + r * m
times q n r m = add-mul (q * n) r m ∙ ap (λ z. z + r * m) (mul_assoc q n m)

-- a and b are q and p wholes, and what is left over: a / n - b / m is q - p, or one less where more is left over of b
module _ (n m q r p s a b : ℕ) (first : q * n + r ≡ a) (second : p * m + s ≡ b) (r-below : r < n) (s-below : s < m)
    (n-some : 0 < n) (m-some : 0 < m) where
  first-times : a * m ≡ q * (n * m) + r * m
  first-times = ap (λ z. z * m) (sym first) ∙ times q n r m

  second-times : b * n ≡ p * (n * m) + s * n
  second-times = ap (λ z. z * n) (sym second) ∙ times p m s n ∙ ap (λ z. p * z + s * n) (mul_comm m n)

  first-small : r * m < n * m
  first-small = mul-lt-mul_of_pos_right r-below m-some

  second-small : s * n < n * m
  second-small = subst (λ z. s * n < z) (mul_comm m n) (mul-lt-mul_of_pos_right s-below n-some)

  rounded-by : (carry : Bool) → nat_lt (r * m) (s * n) ≡ carry
      → let less = p + (if carry then 1 else 0) in
      (q * (n * m) + b * n ≤ a * m + less * (n * m)) × (a * m + less * (n * m) < (q + 1) * (n * m) + b * n)
  rounded-by true e =
      let more : r * m < s * n = grind (arith, nat_tests, e) in
      let one = add-mul p 1 (n * m) in
      let other = add-mul q 1 (n * m) in (
        omega (arith, first-times, second-times, second-small, one),
        omega (arith, first-times, second-times, more, one, other),
      )
  rounded-by false e =
      let few : s * n ≤ r * m = grind (arith, nat_tests, e) in
      let one = add-mul p 0 (n * m) in
      let other = add-mul q 1 (n * m) in (
        omega (arith, first-times, second-times, few, one),
        omega (arith, first-times, second-times, first-small, one, other),
      )

pub shares_are_rounded_outward : SharesAreRoundedOutward
shares_are_rounded_outward a b h g =
    rounded-by (whole a.0) (whole b.0) (millionths a.0 a.1) (left_over a.0 a.1) (millionths b.0 b.1) (left_over b.0 b.1)
    (a.1 * 1000000) (b.1 * 1000000) (parts a.0 a.1 h) (parts b.0 b.1 g)
    (mod_below (a.1 * 1000000) (whole a.0) (some-whole a.0)) (mod_below (b.1 * 1000000) (whole b.0) (some-whole b.0))
    (some-whole a.0) (some-whole b.0)
    (nat_lt (left_over a.0 a.1 * whole b.0) (left_over b.0 b.1 * whole a.0)) refl
