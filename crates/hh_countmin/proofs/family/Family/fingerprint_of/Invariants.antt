use Rattle.std.proofs.Common.{◌≡◌, ◌<◌, length, fold}
use Rattle.hh_countmin.specs.Family.{modulus, fingerprint_of, fingerprint_step}
use Rattle.hh_countmin.proofs.family.Family.fingerprint_of.Given as goal

abbrev pub invariant-loop-rest : goal.invariant-loop-rest
invariant-loop-rest l =
    (l.fingerprint < modulus) × (fold (fingerprint_step l.self.z) l.fingerprint l.rest ≡ fingerprint_of l.self.z l.key)

abbrev pub decreases-loop-rest : goal.decreases-loop-rest
decreases-loop-rest l = length l.rest
