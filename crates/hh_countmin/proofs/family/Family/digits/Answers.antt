use Rattle.std.proofs.Common.{◌≡◌, ◌+◌, ◌*◌, ◌-◌, ◌^◌, ◌%◌, ◌≤◌, suc, length, get_or, take, ap, sym, ◌∙◌, arith}
use Rattle.std.proofs.Math.Nat.{pow-zero, mod-eq_of_lt}
use Rattle.std.proofs.lemmas.List.{take_all}
use Rattle.std.proofs.lemmas.List.Sums.{fold_more}
use Rattle.std.proofs.lemmas.Nat.{mul-le}
use Rattle.hh_countmin.specs.Family.{modulus, fingerprint_of, fingerprint_step}
use Rattle.hh_countmin.proofs.Digits.{one_digit, fingerprint-below}
use Rattle.hh_countmin.proofs.family.Family.digits.Goals as goal

-- src/family.rt:172:9
pub loop-i-preserved : goal.loop-i-preserved
loop-i-preserved c =
    let z = c.args.self.now.z in
    let same : c.self.inside.z ≡ z = ap (λ family. family.z) c.self.view_is in
    let bytes = c.args.bytes.now in
    let i = c.loop-i.i in
    let left = length bytes - (i + 1) in
    let byte = get_or bytes i 0 in
    let digits = fingerprint_of z (take i bytes) in
    let before : length bytes - 1 - i ≡ left = omega arith in
    let power : c.from.result ≡ z ^ left % modulus = c.from.ensures
    ∙ c.self.invariant.1 (length bytes - 1 - i) (omega (arith, c.requires.few))
    ∙ ap (λ u. u ^ (length bytes - 1 - i) % modulus) same ∙ ap (λ j. z ^ j % modulus) before in
    let more : fingerprint_of z (take (i + 1) bytes) ≡ fingerprint_step z digits byte =
    fold_more (fingerprint_step z) 0 bytes i 0 c.loop-i-test.true in
    let so_far : c.loop-i.sum % modulus ≡ (digits * z ^ suc left) % modulus =
    c.loop-i.invariant.2 ∙ ap (λ j. (digits * z ^ j) % modulus) (omega arith) in
    let term : c.from.result * (c.from-in-loop-i.result + 1) ≤ modulus * 256 = mul-le c.from.result
    (c.from-in-loop-i.result + 1) modulus 256 (omega (arith, power))
    (omega (arith, c.from-in-loop-i.ensures, c.type_inv.bytes i)) in (
      omega arith,
      omega (arith, term, c.loop-i.invariant.1),
      ap (λ b. (c.loop-i.sum + c.from.result * (b + 1)) % modulus) c.from-in-loop-i.ensures
          ∙ one_digit z c.loop-i.sum digits byte left c.from.result so_far power
          ∙ ap (λ d. (d * z ^ left) % modulus) (sym more),
    )

-- src/family.rt:165:5
pub returns-clause-digits : goal.returns-clause-digits
returns-clause-digits c =
    let bytes = c.args.bytes.now in
    let left : length bytes - c.loop-i.i ≡ 0 = omega (arith, c.loop-i-test.false) in
    let z = c.args.self.now.z in
    c.reduce.ensures.value
    ∙ c.loop-i.invariant.2
    ∙ ap (λ j. (fingerprint_of z (take c.loop-i.i bytes) * z ^ j) % modulus) left
    ∙ ap (λ u. (fingerprint_of z (take c.loop-i.i bytes) * u) % modulus) (pow-zero z)
    ∙ ap (λ u. (fingerprint_of z u * 1) % modulus) (take_all c.loop-i.i bytes c.loop-i-test.false)
    ∙ ap (λ u. u % modulus) (omega arith)
    ∙ mod-eq_of_lt (fingerprint-below z 0 bytes (omega arith))
