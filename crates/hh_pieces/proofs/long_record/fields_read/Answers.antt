use Rattle.std.proofs.Common.{◌≤◌, arith, take, take_all}
use Rattle.std.proofs.lemmas.List.Elements.{All-more, All-weaker}
use Rattle.hh_pieces.proofs.AlikeFacts.{reads-within, weaker-below}
use Rattle.hh_pieces.proofs.long_record.fields_read.Goals as goal

pub loop-place-preserved : goal.loop-place-preserved
loop-place-preserved c =
    let items = c.deref-place-items.result.now in
    let at = c.loop-place.place-index in
    let last = c.loop-place.last in
    let next = c.max-last.result in (
      All-more (λ place. place ≤ next) items at 0 c.loop-place-test.true
          (All-weaker (λ place. place ≤ last) (λ place. place ≤ next) (λ place h. omega (arith, h, c.max-last.ensures))
          (take at items) c.loop-place.invariant.0)
          (omega (arith, c.max-last.ensures)),
      weaker-below c.args.columns.now.weight last next (omega (arith, c.max-last.ensures)) c.loop-place.invariant.1,
    )

pub returns : goal.returns
returns c =
    let items = c.deref-place-items.result.now in
    let all = rw (take_all c.loop-place.place-index items c.loop-place-test.false) at c.loop-place.invariant.0 in
    reads-within c.args.columns.now.key.items c.args.columns.now.weight c.loop-place.last c.checked_add.result
    (rw c.deref-place-items.ensures.value at all) c.loop-place.invariant.1 c.checked_add.ensures
