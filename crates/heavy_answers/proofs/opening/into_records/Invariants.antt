-- The readers so far read the inputs before those that are left.
use Rattle.std.proofs.Common.{◌≡◌, length}
use Rattle.std.specs.Vec.Iter.{into_iter_items, into_iter_len}
use Rattle.heavy_answers.proofs.InputLemmas.{MadeSoFar}
use Rattle.heavy_answers.proofs.opening.into_records.Given as goal

abbrev pub invariant-loop-input : goal.invariant-loop-input
invariant-loop-input g l = (goal.iterator-loop-input g).can_next l.input-iterator
    × (goal.iterator-loop-input g).is_finite l.input-iterator
    × (into_iter_len l.input-iterator ≡ length (into_iter_items l.input-iterator))
    × MadeSoFar g.H.Host.text g.H.Reader.Read.remaining l.fn.opened.inputs.items (into_iter_items l.input-iterator) l.readers.items
