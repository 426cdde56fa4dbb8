use Rattle.std.proofs.Common.{◌∙◌, ◌<◌, length, sym}
use Rattle.csv.specs.Records.{fields_of}
use Rattle.hh_records.proofs.LayoutFacts.{field-there, named-here, named-later}
use Rattle.hh_records.proofs.layout.named.Goals as goal

pub returns-then-eq : goal.returns-then-eq
returns-then-eq c =
    sym (c.loop-place.invariant ∙ named-here c.args.name.now c.loop-place.place (fields_of c.args.header.now)
    c.in-Some.field.now c.in-Some.ensures.value (sym c.if-eq.ensures))

pub returns-in-None : goal.returns-in-None
returns-in-None c =
    let there : c.loop-place.place < length (fields_of c.args.header.now) =
    rw c.len-place-end.ensures at c.loop-place-test.true in
    absurd (field-there (fields_of c.args.header.now) c.loop-place.place there c.in-None.ensures.value)

pub loop-place-preserved : goal.loop-place-preserved
loop-place-preserved c =
    c.loop-place.invariant ∙ named-later c.args.name.now c.loop-place.place (fields_of c.args.header.now)
    c.in-Some.field.now c.in-Some.ensures.value (sym c.if-eq.ensures)
