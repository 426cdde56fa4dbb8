use Rattle.std.proofs.Common.{◌+◌, ◌-◌, arith}
use Rattle.hh_stream.proofs.CuttingFacts.{piece-at, pieces-whole, total-part}
use Rattle.hh_stream.proofs.ItemFacts.{items-part}
use Rattle.hh_stream.proofs.cutting.Cutting.piece.Goals as goal

pub returns-clause-piece : goal.returns-clause-piece
returns-clause-piece c =
    rw (c.items.ensures.items, ← c.self.view_is)
    (piece-at _ _ _ _ _ (rw (← c.self.view_is) at c.requires.within)
    (rw c.deref.ensures.value at c.sum_of-start.ensures) c.index-length.ensures)

pub returns-clause-whole : goal.returns-clause-whole
returns-clause-whole c = pieces-whole c.args.self.now c.args.stream.now c.requires.same_len

pub returns-clause-bounded : goal.returns-clause-bounded
returns-clause-bounded c =
    let start = c.sum_of-start.result in
    let part = total-part c.args.stream.now (start + c.index-length.result.now - start) start in
    rw c.items.ensures.items (omega (arith, c.items.ensures.bounded, part))

pub returns-clause-lawful : goal.returns-clause-lawful
returns-clause-lawful c =
    let start = c.sum_of-start.result in
    rw c.items.ensures.items
    (items-part c.args.stream.now start (start + c.index-length.result.now - start) c.items.ensures.lawful)
