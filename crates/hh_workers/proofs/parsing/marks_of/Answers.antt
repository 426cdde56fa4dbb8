use Rattle.std.proofs.Common.{◌≡◌, ◌+◌, ◌<◌, ◌∙◌, length, take, drop, get_or, false, true, sym, arith}
use Rattle.std.proofs.lemmas.List.{get_or_default}
use Rattle.hh_workers.proofs.NumberFacts.{came, numbers-more, split-at}
use Rattle.hh_workers.proofs.parsing.marks_of.Goals as goal

pub returns-then-number-pieces-clause-refused : goal.returns-then-number-pieces-clause-refused
returns-then-number-pieces-clause-refused c =
    let xs = c.args.numbers.now in
    let n = c.loop-number.number-index in
    let split = split-at xs n 0 c.loop-number-test.true in
    (take n xs, drop (n + 1) xs, split, c.loop-number.invariant.1, c.if-number-pieces.true)

pub returns-then-index-clause-refused : goal.returns-then-index-clause-refused
returns-then-index-clause-refused c =
    let xs = c.args.numbers.now in
    let n = c.loop-number.number-index in
    let marks = c.loop-number.marks.items in
    let below : get_or xs n 0 < length marks = omega (arith, c.if-number-pieces.false, c.loop-number.invariant.0.0) in
    let marked : get_or marks (get_or xs n 0) false ≡ true = get_or_default marks (get_or xs n 0) false true below
    ∙ sym (rw c.if-index.true at c.index.ensures) in
    let split = split-at xs n 0 c.loop-number-test.true in
    let own = c.loop-number.invariant in
    let again = came marks c.args.pieces (get_or xs n 0) (take n xs) own.0 c.if-number-pieces.false marked in
    (take n xs, drop (n + 1) xs, split, own.1, again)

pub loop-number-preserved : goal.loop-number-preserved
loop-number-preserved c =
    numbers-more c.loop-number.marks.items c.args.pieces c.loop-number.number-index 0 c.args.numbers.now
    c.loop-number-test.true c.loop-number.invariant.0 c.loop-number.invariant.1 c.if-number-pieces.false
    (sym (rw c.if-index.false at c.index.ensures))
