use Rattle.std.proofs.Common.{◌≡◌, ◌+◌, ◌*◌, ◌-◌, ◌^◌, ◌%◌, ap, sym, inl, inr, ◌∙◌, arith}
use Rattle.std.proofs.lemmas.Bool.{cases_eq}
use Rattle.std.proofs.lemmas.List.{get_or-set_other, length-set}
use Rattle.std.proofs.lemmas.Grind.{get_or-set_at}
use Rattle.hh_countmin.specs.Family.{modulus}
use Rattle.hh_countmin.proofs.Digits.{next_power}
use Rattle.hh_countmin.proofs.family.powers_of.Goals as goal

-- src/family.rt:233:5
pub loop-i-preserved : goal.loop-i-preserved
loop-i-preserved c =
    let powers = c.loop-i.powers in
    let i = c.loop-i.i in
    let z = c.args.z in
    let before = c.loop-i.invariant.1 (i - 1) (omega arith) in
    let next : c.multiply_add.result ≡ z ^ i % modulus =
    c.multiply_add.ensures.value ∙ ap (λ p. (p * z + 0) % modulus) before ∙ next_power z (i - 1)
    ∙ ap (λ j. z ^ j % modulus) (omega arith) in (
      length-set powers i c.multiply_add.result ∙ c.loop-i.invariant.0,
      λ j below. elim (cases_eq j i) [
        | inl e ↦ get_or-set_at powers i j c.multiply_add.result 0 e (omega arith) ∙ next
            ∙ ap (λ j. z ^ j % modulus) (sym e)
        | inr ne ↦ get_or-set_other powers i j c.multiply_add.result 0 ne ∙ c.loop-i.invariant.1 j (omega arith)
      ],
    )
