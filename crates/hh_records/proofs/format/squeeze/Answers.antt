use Rattle.std.proofs.Common.{◌<◌, length}
use Rattle.csv.specs.Records.{fields_of}
use Rattle.hh_records.proofs.FormatFacts.{squeezed-more}
use Rattle.hh_records.proofs.LayoutFacts.{field-there}
use Rattle.hh_records.proofs.format.squeeze.Goals as goal

pub loop-place-preserved : goal.loop-place-preserved
loop-place-preserved c =
    let more = squeezed-more (fields_of c.args.row.now) c.loop-place.place c.in-Some.field.now c.in-Some.ensures.value in
    (rw (more, ← c.loop-place.invariant.0) c.in_ok-push_filled.ensures.fields, c.in_ok-push_filled.ensures.whole)

pub returns-in_default : goal.returns-in_default
returns-in_default c =
    let there : c.loop-place.place < length (fields_of c.args.row.now) =
    rw c.len-place-end.ensures at c.loop-place-test.true in
    absurd (field-there (fields_of c.args.row.now) c.loop-place.place there c.in_default.ensures.value)
