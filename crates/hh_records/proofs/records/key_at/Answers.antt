use Rattle.csv.specs.Records.{fields_of}
use Rattle.hh_records.proofs.LayoutFacts.{key-many, key-one}
use Rattle.hh_records.specs.Formats.{part_said}
use Rattle.hh_records.proofs.records.key_at.Goals as goal

pub returns-in-Some : goal.returns-in-Some
returns-in-Some c =
    rw c.of.ensures
    (key-one (fields_of c.args.row.now) c.args.places.now (part_said c.args.part.now) _ c.if-places-eq1.true
    (rw c.in-Some.is at c.get.ensures.value))

pub returns-in-None : goal.returns-in-None
returns-in-None c =
    key-one (fields_of c.args.row.now) c.args.places.now (part_said c.args.part.now) _ c.if-places-eq1.true c.in-None.ensures.value

pub returns-in-Some-2 : goal.returns-in-Some-2
returns-in-Some-2 c =
    rw c.as_slice.ensures.value
    (key-many (fields_of c.args.row.now) c.args.places.now (part_said c.args.part.now) _ c.if-places-eq1.false
    (rw c.in-Some-2.is at c.in_ok-key.ensures))

pub returns-in-None-2 : goal.returns-in-None-2
returns-in-None-2 c =
    key-many (fields_of c.args.row.now) c.args.places.now (part_said c.args.part.now) _ c.if-places-eq1.false
    (rw c.in-None-2.is at c.in_ok-key.ensures)
