use Rattle.std.proofs.Common.{◌≡◌, ◌+◌, ◌-◌, ◌^◌, ◌∷◌, ◌∙◌, [], suc, append-nil, append_assoc, arith, sym}
use Rattle.std.specs.Prelude.{◌/◌, ◌%◌}
use Rattle.hh_records.specs.Decimals.{last_digits}
use Rattle.hh_records.proofs.decimals.pointed.Goals as goal

pub loop-i-preserved : goal.loop-i-preserved
unfolding last_digits
loop-i-preserved c =
    let d = c.args.decimals in
    let i = c.loop-i.i in
    let m = d - 1 - i in
    let left : d - i ≡ suc m = omega (arith, c.loop-i-test.true) in
    let fewer : d - (i + 1) ≡ m = omega arith in
    let digit = 48 + c.args.number / 10 ^ m % 10 in
    rw (c.in_ok-push-2.ensures.items, fewer, c.without-digit.ensures)
    (append_assoc c.loop-i.text.items (digit ∷ []) (last_digits m c.args.number) ∙ rw left at c.loop-i.invariant)

pub returns : goal.returns
unfolding last_digits
returns c =
    let none : c.args.decimals - c.loop-i.i ≡ 0 = omega (arith, c.loop-i-test.false) in
    sym (append-nil c.loop-i.text.items) ∙ rw none at c.loop-i.invariant
