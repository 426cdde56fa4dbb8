-- Shares of a total.
use Rattle.std.proofs.Common.{ℕ, ◌+◌, ◌*◌, ◌<◌, ◌≤◌, inl, inr, arith}
use Rattle.std.specs.Prelude.{◌/◌}
use Rattle.std.proofs.lemmas.Bool.Decides.{eqb_tells}
use Rattle.std.proofs.lemmas.Nat.{div-add-mod', mod_below}
use Rattle.hh_rows.specs.Laws.{SharesAreRoundedDown}

-- a quotient is rounded down
rounded_down : (n m : ℕ) → 0 < m → (n / m * m ≤ n) × (n < (n / m + 1) * m)
rounded_down n m some = (omega (arith, div-add-mod' n m), grind (arith, div-add-mod' n m, mod_below n m some))

-- so is a share
pub shares_are_rounded_down : SharesAreRoundedDown
shares_are_rounded_down total weight some = elim (eqb_tells total 0) [
  | inl (e, none) ↦ absurd (omega (arith, some, none))
  | inr (e, _) ↦ rw e (rounded_down (weight * 1000000) total some)
]
