use Rattle.std.proofs.Common.{◌≡◌, ◌<◌, ◌≤◌, ◌+◌, List, length}
use Rattle.std.specs.Prelude.{All, fold}
use Rattle.std.specs.Vec.Iter.{into_iter_items, into_iter_len}
use Rattle.hh_stream.specs.Weights.{Entry, total_of, max_total}
use Rattle.hh_pieces.proofs.TextFacts.{TextsSoFar}
use Rattle.hh_pieces.proofs.texts.read_all.Given as goal

abbrev pub invariant-loop-text : goal.invariant-loop-text
invariant-loop-text g l = (goal.iterator-loop-text g).can_next l.text-iterator
    × (goal.iterator-loop-text g).is_finite l.text-iterator
    × (into_iter_len l.text-iterator ≡ length (into_iter_items l.text-iterator))
    × (g.T.TakeItems.weight_taken l.taker ≤ max_total)
    × ((xs : List Entry)
    × (g.T.TakeItems.weight_taken l.taker ≡ g.T.TakeItems.weight_taken l.initial.taker + total_of xs)
    × All (λ (e : Entry). 0 < e.1) xs × (l.taker ≡ fold g.T.TakeItems.with_item l.initial.taker xs)
    × TextsSoFar g.R.Read.remaining l.fn.layout (g.T.TakeItems.weight_taken l.initial.taker) l.fn.texts.items
    (into_iter_items l.text-iterator) xs l.number)
