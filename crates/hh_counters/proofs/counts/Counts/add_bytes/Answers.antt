use Rattle.std.proofs.Common.{◌∷◌, [], ◌∙◌, ap, sym, length, arith}
use Rattle.hh_stream.specs.Weights.{Entry}
use Rattle.hh_counters.proofs.CountFacts.{counts-within}
use Rattle.hh_counters.proofs.counts.Counts.add_bytes.Goals as goal

pub invariant_of-self : goal.invariant_of-self
invariant_of-self c =
    let inv = c.self.invariant in
    let now = c.self.inside in
    let slice = c.deref_mut.ensures in
    let item : Entry = (c.args.key.now, c.args.weight) in
    let (whole, long, within) =
    counts-within c.counts_stay_within.ensures now.candidates.now (item ∷ []) now.weights.items
    c.count_bytes.new.numbers
    now.weights.len now.total c.args.weight (sym slice.len ∙ ap length slice.value) inv.0 inv.1 (omega arith)
    (rw slice.value at c.count_bytes.ensures) in
    rw whole (long, within, rw (← c.self.view_is) at c.requires)
