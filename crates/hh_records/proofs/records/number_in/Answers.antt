use Rattle.std.proofs.Common.{◌^◌, ◌≤◌, arith}
use Rattle.std.proofs.lemmas.List.{take_all}
use Rattle.std.proofs.Math.Nat.{pow-le-pow_right}
use Rattle.hh_records.proofs.DecimalFacts.{is-number}
use Rattle.hh_records.proofs.records.number_in.Goals as goal

pub returns-clause-below : goal.returns-clause-below
returns-clause-below c =
    let most : 10 ^ c.loop-digit.digit-index ≤ 10 ^ c.args.most = pow-le-pow_right (omega arith) (omega arith) in
    omega (arith, most, c.loop-digit.invariant.2)

pub returns-clause-number : goal.returns-clause-number
returns-clause-number c =
    let field = c.args.field.now in
    let inv = c.loop-digit.invariant in
    let all = take_all c.loop-digit.digit-index field c.loop-digit-test.false in (
      is-number c.args.most field (c.if-is_empty.ensures) c.if-field-most.false (rw all at inv.1),
      rw all at inv.0,
    )
