use Rattle.hh_pieces.proofs.ColumnFacts.{all-behind, all-fewer}
use Rattle.hh_pieces.proofs.columns.fields_at.Goals as goal

pub returns-in-Err-clause-none : goal.returns-in-Err-clause-none
returns-in-Err-clause-none c =
    let none = rw c.field_at-first.ensures.from at c.in-Err.ensures.none in
    all-fewer c.args.delimiter c.args.text.now c.args.from c.args.low c.args.high c.in-Err.end c.requires.order none

pub returns-in-Err-field_after-clause-none : goal.returns-in-Err-field_after-clause-none
returns-in-Err-field_after-clause-none c =
    let low = rw c.field_at-first.ensures.from at c.in-Ok.ensures.found in
    all-behind c.args.delimiter c.args.text.now c.args.from c.args.low c.in-Ok.field.from c.args.high c.in-Err-field_after.end
    c.requires.order low c.in-Err-field_after.ensures.none
