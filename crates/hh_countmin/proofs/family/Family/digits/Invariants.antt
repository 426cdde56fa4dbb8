use Rattle.std.proofs.Common.{◌≡◌, ◌*◌, ◌-◌, ◌^◌, ◌%◌, ◌≤◌, length, take}
use Rattle.hh_countmin.specs.Family.{modulus, fingerprint_of}
use Rattle.hh_countmin.proofs.family.Family.digits.Given as goal

abbrev pub invariant-loop-i : goal.invariant-loop-i
invariant-loop-i l = (l.i ≤ length l.bytes) × (l.sum ≤ l.i * (256 * modulus))
    × (l.sum % modulus ≡ (fingerprint_of l.self.z (take l.i l.bytes) * l.self.z ^ (length l.bytes - l.i)) % modulus)
