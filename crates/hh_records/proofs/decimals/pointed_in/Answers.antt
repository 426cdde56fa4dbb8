use Rattle.std.proofs.Common.{◌≡◌, ◌+◌, ◌-◌, ◌∙◌, ap, drop, length, sym, take}
use Rattle.std.proofs.Math.Seq.{take-length}
use Rattle.std.proofs.lemmas.List.{length-drop}
use Rattle.hh_records.proofs.DecimalFacts.{units-number, units-pointed}
use Rattle.hh_records.proofs.decimals.pointed_in.Goals as goal

pub returns-in-Some : goal.returns-in-Some
returns-in-Some c =
    rw c.scaled.ensures
    (units-number c.args.decimals 18446744073709551615 c.in-Some.whole c.args.field.now
    c.in-Some.ensures.number.0 c.in-Some.ensures.number.1)

pub returns : goal.returns
returns c =
    let field = c.args.field.now in
    let i = c.in_ok-place.place in
    let rest : take (length field - (i + 1)) (drop (i + 1) field) ≡ drop (i + 1) field =
    ap (λ n. take n (drop (i + 1) field)) (sym (length-drop (i + 1) field)) ∙ take-length (drop (i + 1) field) in
    let number = rw rest at c.in_ok-units.ensures.number in
    rw (c.saturating_add.ensures, c.scaled-2.ensures, c.scaled-3.ensures, rest)
    (units-pointed c.args.decimals 18446744073709551615 i c.in_ok-whole.whole c.in_ok-units.units
    field (sym c.in_ok-place.ensures.place) c.in_ok-whole.ensures.0 c.in_ok-whole.ensures.1
    number.0 number.1)
