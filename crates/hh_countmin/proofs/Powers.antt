-- A number with one bit is a power of two, and a mask below it is the remainder.
use Rattle.std.proofs.Common.{◌≡◌, ℕ, ◌+◌, ◌*◌, ◌-◌, ◌^◌, ◌<◌, ◌%◌, true, ap, ◌∙◌, arith, bit_and}
use Rattle.std.specs.Int.{is_power_of_two}
use Rattle.std.specs.Int.RustNames.{count_ones}
use Rattle.std.proofs.Math.Nat.{pow-suc}
use Rattle.std.proofs.lemmas.Bool.{eqb-true}
use Rattle.std.proofs.lemmas.Nat.{leading_top, ones_cat, zero_from_ones, and_mask}

power_from_ones : (n : ℕ) → 0 < n → n < 2 ^ 64 → count_ones n ≡ 1 → (k : ℕ) × (n ≡ 2 ^ k)
unfolding count_ones
power_from_ones n some small one =
    let top = leading_top 64 n some small in
    let k = top.0 in
    let rest = n - 2 ^ k in
    let below : rest < 2 ^ k = omega (arith, top.2, top.3, pow-suc 2 k) in
    let split : n ≡ 1 * 2 ^ k + rest = omega (arith, top.2) in
    let ones : count_ones n ≡ 1 + count_ones rest = ap count_ones split ∙ ones_cat k 1 rest below in
    let none : rest ≡ 0 = zero_from_ones rest (omega (arith, ones, one)) in
    (k, omega (arith, split, none))

-- where the width is a power of two, the remainder is what the bits below it say
pub mask-is : (n width : ℕ) → 0 < width → width < 2 ^ 64 → is_power_of_two width ≡ true
    → bit_and n (width - 1) ≡ n % width
mask-is n width some small one =
    let power = power_from_ones width some small (eqb-true _ _ one) in
    rw (power.1) (and_mask n power.0)
