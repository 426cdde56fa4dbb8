use Rattle.std.proofs.lemmas.Result.{err_from_is_err_and}
use Rattle.hh_records.specs.Layouts.{config_of}
use Rattle.hh_pieces.specs.Windows.{held_in}
use Rattle.hh_pieces.proofs.TakesFacts.{takes-as, takes-none}
use Rattle.hh_pieces.proofs.TurnFacts.{front-leaves, front-outside, front-refused, leaves-first, outside-same}
use Rattle.hh_pieces.proofs.texts.take_whole.Goals as goal

-- no record is whole
pub returns-in_default-clause-items : goal.returns-in_default-clause-items
returns-in_default-clause-items g c =
    takes-none g.T.TakeItems.with_item g.T.TakeItems.weight_taken c.args.taker.now _
    (λ rest. leaves-first c.args.layout.now c.args.columns.now c.args.before (g.T.TakeItems.weight_taken c.args.taker.now) _)

pub returns-clause-items : goal.returns-clause-items
returns-clause-items g c =
    takes-as _ _ _ _ _ _ c.in_ok-after.ensures.items
    (λ xs adds rest. rw c.remove.ensures (front-leaves c.args.layout.now c.args.columns.now (held_in c.args.window.now)
    c.in-Some.count c.args.before (g.T.TakeItems.weight_taken c.args.taker.now) (rw c.held.ensures at c.in-Some.ensures.1)
    c.in_ok-after.after xs (rw c.held-2.ensures at adds) rest))

pub returns-in_err-after-clause-refused : goal.returns-in_err-after-clause-refused
returns-in_err-after-clause-refused g c =
    let p = err_from_is_err_and c.from_residual.result c.from_residual.ensures.1 in
    rw (p.1, p.2) (λ rest. front-refused c.args.layout.now c.args.columns.now (held_in c.args.window.now)
    c.in-Some.count c.args.before (g.T.TakeItems.weight_taken c.args.taker.now) (rw c.held.ensures at c.in-Some.ensures.1)
    c.in_err-after.field-0.0 (rw c.held-2.ensures at c.in_err-after.ensures.refused) rest)

pub returns-in_default-clause-outside : goal.returns-in_default-clause-outside
returns-in_default-clause-outside g c = λ rest. outside-same (config_of c.args.layout.now) _

pub returns-clause-outside : goal.returns-clause-outside
returns-clause-outside g c = λ rest.
    rw c.remove.ensures (front-outside c.args.layout.now c.args.columns.now (held_in c.args.window.now)
    c.in-Some.count c.args.before (g.T.TakeItems.weight_taken c.args.taker.now) (rw c.held.ensures at c.in-Some.ensures.1) rest)
