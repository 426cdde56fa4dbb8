use Rattle.std.proofs.Common.{◌≡◌, ◌∷◌, length}
use Rattle.std.specs.Vec.Iter.{into_iter_items, into_iter_len}
use Rattle.hh_pieces.proofs.TextFacts.{OpenedSoFar}
use Rattle.hh_pieces.proofs.texts.open_all.Given as goal

abbrev pub invariant-loop-reader : goal.invariant-loop-reader
invariant-loop-reader g l = (goal.iterator-loop-reader g).can_next l.reader-iterator
    × (goal.iterator-loop-reader g).is_finite l.reader-iterator
    × (into_iter_len l.reader-iterator ≡ length (into_iter_items l.reader-iterator))
    × OpenedSoFar g.R.Read.remaining l.fn.layout (l.fn.first ∷ l.fn.others.items) (into_iter_items l.reader-iterator)
    l.texts.items
