use Rattle.std.proofs.Common.{◌∙◌, sym}
use Rattle.csv.specs.Records.{fields_of}
use Rattle.hh_records.proofs.FormatFacts.{one-line}
use Rattle.hh_records.proofs.format.read_members.Goals as goal

pub returns-in-Some : goal.returns-in-Some
returns-in-Some c =
    let line = one-line (fields_of c.args.row.now) c.in-Some.line.now (sym c.len.ensures ∙ c.if-len-eq1.true)
    c.in-Some.ensures.value in
    rw line (rw (c.as_slice-names.ensures.value, c.weight_name-weight.ensures) at c.members.ensures)
