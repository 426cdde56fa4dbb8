use Rattle.std.proofs.Common.{◌≡◌, ◌+◌, ◌*◌, ◌^◌, ◌%◌, ◌++◌, ◌≤◌, length, fold, get_or, take, refl, ap, sym, ◌∙◌, arith}
use Rattle.std.proofs.Math.Nat.{mod-eq_of_lt}
use Rattle.std.proofs.lemmas.List.{take-append-drop}
use Rattle.std.proofs.lemmas.Nat.{mul-mod_second}
use Rattle.std.proofs.lemmas.List.Sums.{fold-append}
use Rattle.hh_countmin.specs.Family.{modulus, fingerprint_of, fingerprint_step}
use Rattle.hh_countmin.proofs.Digits.{fingerprint_goes_on, fingerprint-below, same-sums}
use Rattle.hh_countmin.proofs.family.Family.fingerprint_of.Goals as goal

-- src/family.rt:158:9
pub loop-rest-preserved : goal.loop-rest-preserved
loop-rest-preserved c =
    let z = c.args.self.now.z in
    let step = fingerprint_step z in
    let before = c.loop-rest.fingerprint in
    let rest = c.loop-rest.rest.now in
    let bytes = c.split_at-in-loop-rest.result.0.now in
    let after = c.split_at-in-loop-rest.result.1.now in
    let power = get_or c.self.inside.powers (length bytes) 0 in
    let few : length bytes ≤ 8 = omega (arith, c.split_at-in-loop-rest.ensures.front_len, c.min-in-loop-rest.ensures) in
    let same : c.self.inside.z ≡ z = ap (λ family. family.z) c.self.view_is in
    let is_power : power ≡ z ^ length bytes % modulus =
    c.self.invariant.1 (length bytes) few ∙ ap (λ u. u ^ length bytes % modulus) same in
    let value : c.multiply_add-fingerprint.result ≡ fold step before bytes =
    c.multiply_add-fingerprint.ensures.value
    ∙ ap (λ p. (before * p + c.digits.result) % modulus) is_power
    ∙ ap (λ d. (before * (z ^ length bytes % modulus) + d) % modulus) c.digits.ensures.digits
    ∙ same-sums (before * (z ^ length bytes % modulus)) (before * z ^ length bytes) (fingerprint_of z bytes)
    (fingerprint_of z bytes) modulus (mul-mod_second before (z ^ length bytes) modulus) refl
    ∙ sym (fingerprint_goes_on z before bytes)
    ∙ mod-eq_of_lt (fingerprint-below z before bytes c.loop-rest.invariant.0) in
    let split : bytes ++ after ≡ rest = ap (λ xs. xs ++ after) c.split_at-in-loop-rest.ensures.front
    ∙ ap (λ xs. take c.min-in-loop-rest.result rest ++ xs) c.split_at-in-loop-rest.ensures.back
    ∙ take-append-drop c.min-in-loop-rest.result rest in (
      c.multiply_add-fingerprint.ensures.below,
      ap (λ acc. fold step acc after) value
          ∙ sym (fold-append step before bytes after) ∙ ap (fold step before) split ∙ c.loop-rest.invariant.1,
    )
