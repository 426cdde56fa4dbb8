use Rattle.std.proofs.Common.{true≢false, sym, arith}
use Rattle.hh_counters.proofs.Linked.{absent, found, held, some_bucket}
use Rattle.hh_counters.proofs.Gathering.{moved_on}
use Rattle.hh_counters.proofs.bucket_saving.refresh_first.Goals as goal

pub unreachable-requires : goal.unreachable-requires
unreachable-requires c =
    let some = some_bucket _ _ _ c.loop-from.invariant.1 c.requires.some in
    absurd (true≢false (sym (c.in_default.ensures.variant.1 some)))

pub unreachable-requires-in_default-get : goal.unreachable-requires-in_default-get
unreachable-requires-in_default-get c =
    let bounds = c.loop-from.invariant.1 in
    let x = c.in-Some.field-0.now.1 in
    let at = held _ _ _ _ x bounds c.in-Some.ensures.member in
    let none = absent _ x bounds.distinct (sym c.in_default-get.ensures.value) in
    omega (arith, none, at, (bounds.below x).0)

pub returns-then-counter-from-clause-fresh : goal.returns-then-counter-from-clause-fresh
returns-then-counter-from-clause-fresh c =
    let x = c.in-Some.field-0.now.1 in
    let at = found c.args.index.now.entries x c.in-Some-get.counter.now c.loop-from.invariant.1.distinct
    (sym c.in-Some-get.ensures.value) in (
      x,
      record {
        first = c.in-Some.ensures.first;
        there = c.in-Some.ensures.member;
        lowest = c.in-Some.ensures.least;
        counter = omega (arith, at, c.if-counter-from.true);
      },
    )

pub loop-from-smaller-in_ok-insert : goal.loop-from-smaller-in_ok-insert
loop-from-smaller-in_ok-insert c =
    (moved_on _ _ _ _ _ _ _ _ _ c.loop-from.invariant c.in-Some.ensures.first c.in-Some.ensures.member
    (sym c.in-Some-get.ensures.value) c.if-counter-from.false c.in_ok-share.ensures c.in_ok-insert.ensures.updates
    c.in_ok-insert.ensures.keys c.pop_first.ensures.variant.1 c.pop_first.ensures.removal
    c.pop_first.ensures.updates).1

pub loop-from-preserved-in_ok-insert : goal.loop-from-preserved-in_ok-insert
loop-from-preserved-in_ok-insert c =
    (moved_on _ _ _ _ _ _ _ _ _ c.loop-from.invariant c.in-Some.ensures.first c.in-Some.ensures.member
    (sym c.in-Some-get.ensures.value) c.if-counter-from.false c.in_ok-share.ensures c.in_ok-insert.ensures.updates
    c.in_ok-insert.ensures.keys c.pop_first.ensures.variant.1 c.pop_first.ensures.removal
    c.pop_first.ensures.updates).0
