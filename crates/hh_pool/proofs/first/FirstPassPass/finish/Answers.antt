use Rattle.std.proofs.Common.{◌+◌, ◌∙◌, get_or, ap, arith}
use Rattle.hh_shared.specs.Numbers.{cell_total}
use Rattle.hh_pool.proofs.Tried.{first_ends}
use Rattle.hh_pool.proofs.Held.{claim-at_cell}
use Rattle.hh_pool.proofs.first.FirstPassPass.finish.Goals as goal

pub add_numbers-requires-clause-holds_a_claim : goal.add_numbers-requires-clause-holds_a_claim
add_numbers-requires-clause-holds_a_claim g c cell some =
    claim-at_cell _ _ _ _ _ c.requires.made cell (omega (arith, some, ap (λ xs. get_or xs cell 0) c.cells.ensures))

pub returns-clause-done : goal.returns-clause-done
returns-clause-done g c =
    let seat = c.args.seat.now in
    first_ends c.cells_are_cell_sums.ensures c.args.self.now.pieces.now c.args.self.now.options.now seat _ _ c.args.made.table
    c.add_numbers.ensures.unchanged
    (λ cell. c.add_numbers.ensures.added cell ∙ ap (λ xs. cell_total cell seat.adds + get_or xs cell 0) c.cells.ensures)
    c.requires.tried c.requires.made
