use Rattle.std.proofs.Common.{◌+◌, ◌∙◌, get_or, ap, arith}
use Rattle.hh_shared.specs.Numbers.{cell_total}
use Rattle.hh_pool.proofs.Tried.{second_ends}
use Rattle.hh_pool.proofs.Held.{claim-at_number}
use Rattle.hh_pool.proofs.second.SecondPassPass.finish.Goals as goal

pub add_numbers-requires-clause-holds_a_claim : goal.add_numbers-requires-clause-holds_a_claim
add_numbers-requires-clause-holds_a_claim g c cell some =
    claim-at_number _ _ _ _ c.requires.made cell
    (omega (arith, some, ap (λ xs. get_or xs cell 0) (c.deref.ensures.value ∙ c.into_weights.ensures)))

pub returns-clause-done : goal.returns-clause-done
returns-clause-done g c =
    let seat = c.args.seat.now in
    second_ends c.args.self.now.pieces.now c.args.self.now.candidates.now seat _ c.args.made c.add_numbers.ensures.unchanged
    (λ cell. c.add_numbers.ensures.added cell
    ∙ ap (λ xs. cell_total cell seat.adds + get_or xs cell 0) (c.deref.ensures.value ∙ c.into_weights.ensures))
    c.requires.tried c.requires.made
