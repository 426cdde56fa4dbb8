use Rattle.std.proofs.Common.{refl, sym}
use Rattle.hh_commands.specs.Ask.{unless}
use Rattle.hh_library.proofs.AddFacts.{item_fails, items_end}
use Rattle.hh_library.proofs.CountFacts.{count_goes_on}
use Rattle.hh_commands.proofs.FileFacts.{refuses}
use Rattle.hh_library.proofs.items.count_items.Goals as goal

pub returns-in-Some-clause-refused : goal.returns-in-Some-clause-refused
returns-in-Some-clause-refused c =
    let first =
    item_fails (λ item. (item.0.now, item.1)) c.args.items.now c.loop-i.i _ _ refl c.loop-i-test.true _ _
    c.loop-i.invariant.0 c.in-Some.fault (rw c.total.ensures.total at (sym c.in-Some.ensures.fault)) in
    refuses (unless _ c.args.candidates.now) c.in-Some.fault (rw first refl)

pub loop-i-preserved : goal.loop-i-preserved
loop-i-preserved c =
    let passed = c.in_default.ensures in
    rw c.add_bytes.ensures
    (count_goes_on (λ item. (item.0.now, item.1)) c.args.items.now c.args.candidates.now c.loop-i.i _ _ refl
    c.loop-i-test.true c.counts_follow_items.ensures c.loop-i.counts _ (passed.weighs refl)
    (rw c.total.ensures.total at (sym passed.fault)) c.loop-i.invariant)

pub returns-clause-passes : goal.returns-clause-passes
returns-clause-passes c =
    items_end (λ item. (item.0.now, item.1)) c.args.items.now c.loop-i.i _ _ _ c.loop-i-test.false c.loop-i.invariant.0
