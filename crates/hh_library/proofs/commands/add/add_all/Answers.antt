use Rattle.std.proofs.Common.{refl}
use Rattle.std.proofs.lemmas.Result.{err_from_is_err_and}
use Rattle.hh_library.proofs.AddFacts.{items_end, items_go_on, items_stop, total_more, values_end, values_go_on}
use Rattle.hh_library.proofs.commands.add.add_all.Goals as goal

pub returns-in_err-add-clause-refused : goal.returns-in_err-add-clause-refused
returns-in_err-add-clause-refused c =
    let p = err_from_is_err_and c.from_residual.result c.from_residual.ensures.1 in
    rw (p.1, p.2) (items_stop (λ item. (item.0.now, item.1)) c.args.items.now c.loop-i.i _ _ refl c.loop-i-test.true
    _ _ c.loop-i.invariant.0 c.loop-i.value _ c.in_err-add.field-0.0 c.in_err-add.ensures.refused)

pub loop-i-preserved : goal.loop-i-preserved
loop-i-preserved c =
    let e = c.in_ok-add.ensures in
    let test = c.loop-i-test.true in
    let so_far = c.loop-i.invariant in
    rw (e.added, total_more c.loop-i.value _) (
      items_go_on (λ item. (item.0.now, item.1)) c.args.items.now c.loop-i.i _ _ refl test _ _ so_far.0 e.passes,
      values_go_on (λ item. (item.0.now, item.1)) c.args.items.now c.loop-i.i _ _ refl test c.loop-i.value so_far.1,
    )

pub returns-clause-added : goal.returns-clause-added
returns-clause-added c =
    let so_far = c.loop-i.invariant in
    let none =
    items_end (λ item. (item.0.now, item.1)) c.args.items.now c.loop-i.i _ _ _ c.loop-i-test.false so_far.0 in
    let all = values_end (λ item. (item.0.now, item.1)) c.args.items.now c.loop-i.i _ _ c.loop-i-test.false so_far.1 in
    rw (none, all) refl
