use Rattle.std.proofs.Common.{None}
use Rattle.std.specs.Prelude.{slice_range}
use Rattle.hh_pieces.specs.Lines.{fields_left}
use Rattle.hh_pieces.proofs.ColumnFacts.{key-alone, line-behind, no-key, place-none, place-there}
use Rattle.hh_pieces.proofs.FieldFacts.{line-is}
use Rattle.hh_pieces.proofs.columns.key_at.Goals as goal

pub returns-in-Ok-clause-end : goal.returns-in-Ok-clause-end
returns-in-Ok-clause-end c =
    let text = c.args.text.now in
    let end = c.feed_from-end.result in
    let there = rw c.field_at-first.ensures.from at c.in-Ok.ensures.found in
    line-is text c.args.from end c.requires.no_return
    (there.line end (line-behind c.args.delimiter text c.in-Ok.field.from c.in-Ok.field.end end c.in-Ok.ensures.end c.feed_from-end.ensures))

pub returns-in-Ok-clause-parts : goal.returns-in-Ok-clause-parts
returns-in-Ok-clause-parts c =
    let text = c.args.text.now in
    let field = c.in-Ok.field in
    let end = c.feed_from-end.result in
    let there = rw c.field_at-first.ensures.from at c.in-Ok.ensures.found in
    key-alone (fields_left c.args.delimiter text c.args.from end) c.args.key (slice_range text field.from field.end)
    (place-there c.args.delimiter text c.args.from c.args.key field.from field.end end there c.in-Ok.ensures.end
    (line-behind c.args.delimiter text field.from field.end end c.in-Ok.ensures.end c.feed_from-end.ensures))

pub returns-in-Err-clause-end : goal.returns-in-Err-clause-end
returns-in-Err-clause-end c =
    let none = rw c.field_at-first.ensures.from at c.in-Err.ensures.none in
    line-is c.args.text.now c.args.from c.in-Err.end c.requires.no_return none.line

pub returns-in-Err-clause-parts : goal.returns-in-Err-clause-parts
returns-in-Err-clause-parts c =
    let text = c.args.text.now in
    let none = rw c.field_at-first.ensures.from at c.in-Err.ensures.none in
    no-key (fields_left c.args.delimiter text c.args.from c.in-Err.end) c.args.key None
    (place-none c.args.delimiter text c.args.from c.args.key c.in-Err.end none)
