use Rattle.std.proofs.Common.{◌∙◌, ap, sym, length}
use Rattle.hh_counters.proofs.CountFacts.{counts-within}
use Rattle.hh_counters.proofs.counts.Counts.add_stream.Goals as goal

pub invariant_of-self : goal.invariant_of-self
invariant_of-self c =
    let inv = c.self.invariant in
    let now = c.self.inside in
    let slice = c.deref_mut.ensures in
    let (whole, long, within) =
    counts-within c.counts_stay_within.ensures now.candidates.now c.args.stream.now now.weights.items
    c.count_piece.new.numbers
    now.weights.len now.total c.total.result (sym slice.len ∙ ap length slice.value) inv.0 inv.1
    (sym c.total.ensures.total) (rw (slice.value, c.items.ensures.items) at c.count_piece.ensures) in
    rw whole (long, within, rw (← c.self.view_is, ← c.total.ensures.total) at c.requires)
