use Rattle.hh_workers.specs.Plans.{reading_of}
use Rattle.hh_workers.proofs.ParsingFacts.{spells-end, steps-more, syntax-at, syntax-end, whole-read}
use Rattle.hh_workers.proofs.parsing.tree_of.Goals as goal

pub returns-in_default-clause-refused : goal.returns-in_default-clause-refused
returns-in_default-clause-refused c =
    syntax-at c.args.text.now c.loop-i.i _ (reading_of c.loop-i.reading) c.loop-i-test.true c.loop-i.invariant
    (rw c.in_default.is at c.in_ok-next.ensures)

pub loop-i-preserved : goal.loop-i-preserved
loop-i-preserved c = steps-more c.args.text.now c.loop-i.i _ (reading_of c.loop-i.reading)
    (reading_of c.in-Some.next) c.loop-i-test.true c.loop-i.invariant
    (rw c.in-Some.is at c.in_ok-next.ensures)

pub returns-in-Some-ended_tree-clause-tree : goal.returns-in-Some-ended_tree-clause-tree
returns-in-Some-ended_tree-clause-tree c =
    let whole = whole-read c.args.text.now c.loop-i.i (reading_of c.loop-i.reading) c.loop-i.auto.i-end
    c.loop-i-test.false c.loop-i.invariant in
    spells-end c.args.text.now (reading_of c.loop-i.reading) _ whole c.in-Some-ended_tree.ensures

pub returns-in-None-clause-refused : goal.returns-in-None-clause-refused
returns-in-None-clause-refused c =
    let whole = whole-read c.args.text.now c.loop-i.i (reading_of c.loop-i.reading) c.loop-i.auto.i-end
    c.loop-i-test.false c.loop-i.invariant in
    syntax-end c.args.text.now (reading_of c.loop-i.reading) whole c.in-None.ensures
