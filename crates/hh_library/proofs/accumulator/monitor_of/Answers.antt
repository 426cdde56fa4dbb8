use Rattle.std.proofs.Common.{◌∙◌, ◌<◌, length, arith}
use Rattle.hh_library.proofs.AccumulatorFacts.{all_seen, entry_fits, entry_seen}
use Rattle.hh_library.proofs.accumulator.monitor_of.Goals as goal

pub loop-i-preserved : goal.loop-i-preserved
loop-i-preserved c =
    let s = c.args.summary.now in
    let lt : c.loop-i.i < length s.counters = omega (arith, c.loop-i-test.true, c.len-i-end.ensures.len) in
    (rw c.bytes.ensures.bytes at c.in_ok-add_within.ensures.added)
    ∙ entry_seen c.summaries_follow_items.ensures.monitors s.k s.counters c.loop-i.i _ lt c.entry-counter.ensures
    c.loop-i.monitor c.loop-i.invariant

pub add_within-requires-clause-room : goal.add_within-requires-clause-room
add_within-requires-clause-room c =
    let s = c.args.summary.now in
    entry_fits s.counters c.loop-i.i _ (omega (arith, c.loop-i-test.true, c.len-i-end.ensures.len))
    c.entry-counter.ensures s.k _ c.loop-i.monitor c.loop-i.invariant
    (omega (arith, c.k.ensures.fits.within, c.k.ensures.fits.bounded_total))

pub returns : goal.returns
returns c =
    let s = c.args.summary.now in
    all_seen s.k s.counters c.loop-i.i c.loop-i.monitor
    (omega (arith, c.loop-i-test.false, c.len-i-end.ensures.len)) c.loop-i.invariant
