use Rattle.std.proofs.Common.{arith}
use Rattle.hh_pieces.proofs.ColumnFacts.{both-end, key-first, one-lacks, weight-first}
use Rattle.hh_pieces.proofs.FieldFacts.{line-is}
use Rattle.hh_pieces.proofs.columns.pair_at.Goals as goal

pub returns-then-key-weight-clause-end : goal.returns-then-key-weight-clause-end
returns-then-key-weight-clause-end c =
    let found = c.in-Ok.ensures in
    line-is c.args.text.now c.args.from c.feed_from-end.result c.requires.no_return
    (both-end c.args.delimiter c.args.text.now c.args.from c.min.result c.in-Ok.low.from c.max.result c.in-Ok.high.from c.in-Ok.low.end
    c.in-Ok.high.end c.feed_from-end.result (omega (arith, c.min.ensures, c.max.ensures)) found.low found.high found.low_end found.high_end c.feed_from-end.ensures)

pub returns-then-key-weight-clause-parts : goal.returns-then-key-weight-clause-parts
returns-then-key-weight-clause-parts c =
    let found = c.in-Ok.ensures in
    key-first c.args.delimiter c.args.text.now c.args.from c.min.result c.in-Ok.low.from c.max.result c.in-Ok.high.from c.in-Ok.low.end
    c.in-Ok.high.end c.feed_from-end.result (omega (arith, c.min.ensures, c.max.ensures)) found.low found.high found.low_end found.high_end c.feed_from-end.ensures
    c.args.key c.args.weight (omega (arith, c.min.ensures, c.if-key-weight.true)) (omega (arith, c.max.ensures, c.if-key-weight.true))

pub returns-else-key-weight-clause-end : goal.returns-else-key-weight-clause-end
returns-else-key-weight-clause-end c =
    let found = c.in-Ok.ensures in
    line-is c.args.text.now c.args.from c.feed_from-end.result c.requires.no_return
    (both-end c.args.delimiter c.args.text.now c.args.from c.min.result c.in-Ok.low.from c.max.result c.in-Ok.high.from c.in-Ok.low.end
    c.in-Ok.high.end c.feed_from-end.result (omega (arith, c.min.ensures, c.max.ensures)) found.low found.high found.low_end found.high_end c.feed_from-end.ensures)

pub returns-else-key-weight-clause-parts : goal.returns-else-key-weight-clause-parts
returns-else-key-weight-clause-parts c =
    let found = c.in-Ok.ensures in
    weight-first c.args.delimiter c.args.text.now c.args.from c.min.result c.in-Ok.low.from c.max.result c.in-Ok.high.from c.in-Ok.low.end
    c.in-Ok.high.end c.feed_from-end.result (omega (arith, c.min.ensures, c.max.ensures)) found.low found.high found.low_end found.high_end c.feed_from-end.ensures
    c.args.key c.args.weight (omega (arith, c.min.ensures, c.if-key-weight.false)) (omega (arith, c.max.ensures, c.if-key-weight.false))

pub returns-in-Err-clause-end : goal.returns-in-Err-clause-end
returns-in-Err-clause-end c = line-is c.args.text.now c.args.from c.in-Err.end c.requires.no_return c.in-Err.ensures.none.line

pub returns-in-Err-clause-parts : goal.returns-in-Err-clause-parts
returns-in-Err-clause-parts c =
    one-lacks c.args.delimiter c.args.text.now c.args.from c.max.result c.in-Err.end c.args.key c.args.weight c.in-Err.ensures.none
    (λ l. omega (arith, l, c.max.ensures)) (λ l. omega (arith, l, c.max.ensures))
