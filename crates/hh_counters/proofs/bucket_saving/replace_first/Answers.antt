-- the way through is a lemma of `Linked`, at the values of the calls
use Rattle.std.proofs.Common.{ℕ, ◌+◌, [], false, Option, None, ◌∙◌, sym, ap, subst, arith}
use Rattle.std.specs.Prelude.{IfSome, unwrap_or}
use Rattle.std.specs.BTreeSet.{Updates}
use Rattle.indexmap.specs.IndexMap.{Updates as UpdatesIndex}
use Rattle.hh_stream.specs.Weights.{Bytes, same_key}
use Rattle.hh_counters.specs.Buckets.{by_counter}
use Rattle.hh_summaries.specs.Counters.{tally}
use Rattle.hh_summaries.proofs.Weights.{weight_of-le-total_of}
use Rattle.hh_counters.proofs.Linked.{first_popped, replaced}
use Rattle.hh_counters.proofs.bucket_saving.replace_first.Goals as goal

pub overflow_add-least : goal.overflow_add-least
overflow_add-least c =
    let y = c.requires.fresh.0 in
    let most = weight_of-le-total_of y (tally c.args.index.now.entries) in
    omega (arith, most, c.requires.fresh.1.counter, c.requires.bounded)

pub returns-clause-taken : goal.returns-clause-taken
returns-clause-taken c = λ k bounds full.
    let pair = c.in_ok-enter.ensures in
    let fresh = c.requires.fresh in
    let y = fresh.0 in
    let first = first_popped _ _ c.pop_first.new.self.keys (c.args.least, y)
    (c.args.least + c.args.weight, c.args.newcomer) c.pop_first.result fresh.1.first
    (omega (arith, c.requires.positive)) pair.sorted c.pop_first.ensures.variant.1
    c.pop_first.ensures.removal in
    let key = ap (λ (o : Option (ℕ × Bytes)). (unwrap_or o (0, [])).1) (sym c.in-Some.is ∙ first) in
    replaced k _ c.enter.new.index.entries _ _ _ _ c.args.newcomer y c.args.least c.args.weight c.requires.positive
    bounds c.requires.new full fresh.1 (c.enter.ensures.distinct bounds.1.distinct) pair.entered.0 pair.put
    c.swap_remove.ensures.unique (subst (λ z. UpdatesIndex same_key c.enter.new.index c.swap_remove.new.self z None) key
    c.swap_remove.ensures.updates).0
    (subst (λ o. IfSome o (λ r. Updates by_counter c.enter.new.buckets c.pop_first.new.self r false)) first
    c.pop_first.ensures.updates)
