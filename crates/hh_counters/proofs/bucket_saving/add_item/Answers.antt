-- each way through is a lemma of `Linked`, at the values of the calls
use Rattle.std.proofs.Common.{◌≤◌, length, sym, subst, arith}
use Rattle.std.proofs.lemmas.Result.{on_ok_weaker}
use Rattle.hh_stream.specs.Weights.{Bytes}
use Rattle.hh_counters.specs.Buckets.{IsTakenIn}
use Rattle.hh_counters.proofs.Linked.{bounds_stay, counter-le-total, entered, hit, not_missed, on_err_both, on_ok_both}
use Rattle.hh_counters.proofs.bucket_saving.add_item.Goals as goal

pub overflow_add-raised : goal.overflow_add-raised
overflow_add-raised c =
    let le = counter-le-total c.args.index.now.entries c.args.key.now c.in-Some.counter.now
    c.requires.bounds.1.distinct (sym c.in-Some.ensures.value) in
    omega (arith, le, c.requires.bounded)

pub returns-in-Some-clause-taken : goal.returns-in-Some-clause-taken
returns-in-Some-clause-taken c =
    let bounds = c.requires.bounds in
    let after = hit c.args.k c.args.index.now.entries c.set_counter.new.index.entries c.args.buckets.now bounds.0
    c.args.key.now c.in-Some.counter.now c.args.weight c.requires.positive bounds.1 (sym c.in-Some.ensures.value)
    (c.set_counter.ensures.distinct bounds.1.distinct) c.set_counter.ensures.set.0 in
    record { step_is = after.0; bounds = (bounds.0, after.1) }

pub returns-then-len-k-clause-taken : goal.returns-then-len-k-clause-taken
returns-then-len-k-clause-taken c =
    let missed = sym c.in_default.ensures.value in
    let room : length c.args.index.now.entries ≤ c.args.k = omega (arith, c.len.ensures.len, c.if-len-k.true) in
    let distinct = c.enter.ensures.distinct c.requires.bounds.1.distinct in
    on_ok_both c.enter.result (λ put_in put.
    entered c.args.k c.args.index.now.entries c.enter.new.index.entries c.args.buckets.now c.enter.new.buckets
    c.in_ok-newcomer.newcomer c.args.key.now c.args.weight c.requires.positive c.requires.bounds missed
    c.in_ok-newcomer.ensures room distinct put_in.0 put) c.enter.ensures.entered c.enter.ensures.put

pub returns-then-len-k-clause-bounds : goal.returns-then-len-k-clause-bounds
returns-then-len-k-clause-bounds c =
    on_err_both c.enter.result (bounds_stay _ _ _ _ c.requires.bounds) c.enter.ensures.unchanged c.enter.ensures.same

pub returns-then-len-k-clause-known : goal.returns-then-len-k-clause-known
returns-then-len-k-clause-known c = not_missed _ _ c.args.key.now c.requires.bounds (sym c.in_default.ensures.value)

pub returns-in_err-newcomer-clause-known : goal.returns-in_err-newcomer-clause-known
returns-in_err-newcomer-clause-known c = not_missed _ _ c.args.key.now c.requires.bounds (sym c.in_default.ensures.value)

pub returns-in_err-least-clause-known : goal.returns-in_err-least-clause-known
returns-in_err-least-clause-known c = not_missed _ _ c.args.key.now c.requires.bounds (sym c.in_default.ensures.value)

pub returns-clause-taken : goal.returns-clause-taken
returns-clause-taken c =
    let after = c.replace_first.new in
    on_ok_weaker c.replace_first.result (λ taken.
    subst (λ (z : Bytes). IsTakenIn c.args.k c.args.index.now.entries after.index.entries after.buckets
    (z, c.args.weight))
    c.in_ok-newcomer.ensures (taken c.args.k c.refresh_first.ensures.bounds (omega arith))) c.replace_first.ensures.taken

pub returns-clause-bounds : goal.returns-clause-bounds
returns-clause-bounds c =
    on_err_both c.replace_first.result (bounds_stay _ _ _ _ c.refresh_first.ensures.bounds) c.replace_first.ensures.unchanged
    c.replace_first.ensures.same

pub returns-clause-known : goal.returns-clause-known
returns-clause-known c = not_missed _ _ c.args.key.now c.requires.bounds (sym c.in_default.ensures.value)
