use Rattle.std.proofs.Common.{◌≡◌, ◌+◌, ◌<◌, ap, below_more, get_or, length, sym, subst, arith}
use Rattle.hh_counters.specs.Counting.{Count}
use Rattle.hh_commands.proofs.BoundsFacts.{all_within, outside_there, within_here}
use Rattle.hh_commands.proofs.compared.key_outside.Goals as goal

pub returns-then-is_beyond : goal.returns-then-is_beyond
returns-then-is_beyond c = λ xs are.
    let s = c.args.summary.now in
    let i = c.loop-place.place in
    let low = c.entry-low.result.1 in
    let lt : i < length s.counters = omega (arith, c.loop-place-test.true, c.len-place-end.ensures.len) in
    let entry = subst (λ x. (x, low) ≡ get_or s.counters i (x, low)) (sym c.in_ok-copy.ensures.equal) c.entry-low.ensures in
    outside_there c.args.bounds s c.len-place-end.ensures.counters.rising xs c.args.counts.now.weights
    (ap (λ (n : Count). n.weights) are) i lt _ entry (ap (λ n. low + n) c.slack-slack.ensures) c.weight-weight.ensures
    c.if-is_beyond.ensures

pub loop-place-preserved : goal.loop-place-preserved
loop-place-preserved c =
    let s = c.args.summary.now in
    let i = c.loop-place.place in
    let low = c.entry-low.result.1 in
    let lt : i < length s.counters = omega (arith, c.loop-place-test.true, c.len-place-end.ensures.len) in
    below_more _ _ c.loop-place.invariant
    (within_here c.args.bounds s i lt _ low _ _ _ c.entry-low.ensures (ap (λ n. low + n) c.slack-slack.ensures)
    c.weight-weight.ensures c.if-is_beyond.ensures)

pub returns : goal.returns
returns c = λ xs are.
    all_within c.args.bounds c.args.summary.now c.len-place-end.ensures.counters.rising xs c.args.counts.now are
    (λ i lt. c.loop-place.invariant i
    (omega (arith, lt, c.loop-place-test.false, c.len-place-end.ensures.len)))
