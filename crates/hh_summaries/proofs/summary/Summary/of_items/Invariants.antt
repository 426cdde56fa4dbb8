use Rattle.std.proofs.Common.{◌≡◌, take}
use Rattle.hh_summaries.specs.Counters.{sketch_of}
use Rattle.hh_summaries.proofs.summary.Summary.of_items.Given as goal

abbrev pub invariant-loop-item : goal.invariant-loop-item
invariant-loop-item l = l.summary ≡ sketch_of l.k (take l.item-index l.items)
