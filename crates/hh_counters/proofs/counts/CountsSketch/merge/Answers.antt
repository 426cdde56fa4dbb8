use Rattle.std.proofs.Common.{◌∙◌, ap, length, arith}
use Rattle.hh_counters.proofs.CountFacts.{all-written, counts-join}
use Rattle.hh_counters.proofs.counts.CountsSketch.merge.Goals as goal

pub returns-clause-both : goal.returns-clause-both
returns-clause-both c s xs ys p q =
    let now = c.self.inside in
    let slice = c.deref_mut.ensures in
    let new = c.add_each.new.numbers in
    let long = c.add_each.auto.numbers ∙ ap length slice.value in
    rw (all-written new now.weights.items now.weights.len (omega (arith, long, slice.len)))
    (counts-join _ _ s.keys xs ys new long (rw (slice.value, c.deref.ensures.value) at c.add_each.ensures)
    (c.self.view_is ∙ p) (c.other.view_is ∙ q))
