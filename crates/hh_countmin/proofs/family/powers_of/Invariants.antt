use Rattle.std.proofs.Common.{◌≡◌, ◌<◌, ◌^◌, ◌%◌, ℕ, length, slice_index}
use Rattle.hh_countmin.specs.Family.{modulus}
use Rattle.hh_countmin.proofs.family.powers_of.Given as goal

abbrev pub invariant-loop-i : goal.invariant-loop-i
invariant-loop-i l = (length l.powers ≡ 9) × ((j : ℕ) → j < l.i → slice_index l.powers j ≡ l.z ^ j % modulus)
