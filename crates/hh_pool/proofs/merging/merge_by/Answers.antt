use Rattle.std.proofs.Common.{ap, arith, length, IfOk}
use Rattle.std.proofs.lemmas.Result.{IfOk-weaker}
use Rattle.hh_workers.proofs.LeafFacts.{distinct-leaves, length_leaves}
use Rattle.hh_pool.proofs.ValueFacts.{IsMergeOf, merge-of}
use Rattle.hh_pool.proofs.merging.merge_by.Goals as goal

pub merge_tree-requires-clause-places : goal.merge_tree-requires-clause-places
merge_tree-requires-clause-places c =
    rw (c.tree.ensures.tree, c.deref_mut.ensures.value) (distinct-leaves _ _ c.requires)

pub merge_tree-requires-clause-fits : goal.merge_tree-requires-clause-fits
merge_tree-requires-clause-fits c =
    let count = length_leaves c.args.plan.now _ c.requires in
    omega (arith, count, c.tree.ensures.few, ap length c.deref_mut.ensures.value)

pub returns : goal.returns
returns c =
    let merged = rw (c.tree.ensures.tree, c.deref_mut.ensures.value) at c.merge_tree.ensures.merged in
    let of = IsMergeOf c.args.plan.now c.args.summaries.items in
    let made : IfOk c.merge_tree.result of =
    IfOk-weaker _ _ _ (λ s h. merge-of c.join_of_honest_is_honest.ensures _ _ s c.requires h) merged in
    record {
      merged = merged;
      refused = rw (c.tree.ensures.tree, c.deref_mut.ensures.value) at c.merge_tree.ensures.refused;
      faults = c.merge_tree.ensures.faults;
      k = IfOk-weaker _ of _ (λ s is. is.same_k) made;
      total = IfOk-weaker _ of _ (λ s is. is.total) made;
      counters = IfOk-weaker _ of _ (λ s is. is.counters) made;
      honest = IfOk-weaker _ of _ (λ s is. is.honest) made;
    }
