use Rattle.std.proofs.Common.{ap}
use Rattle.csv.specs.declared.parser.Action.{Action}
use Rattle.csv.specs.declared.parser.State.{State}
use Rattle.hh_pieces.proofs.long_record.LongRecord.take.Goals as goal

pub returns-in_ok-copy-in-Copy-clause-holds : goal.returns-in_ok-copy-in-Copy-clause-holds
returns-in_ok-copy-in-Copy-clause-holds c fs f h =
    let a = ap (λ (p : State × Action). p.1) c.next-spot.ensures.next in
    rw (← a, c.in-Copy.is) (c.in_ok-copy-in-Copy.ensures.holds fs f h)

pub returns-in_ok-end_field-in-EndField-clause-holds : goal.returns-in_ok-end_field-in-EndField-clause-holds
returns-in_ok-end_field-in-EndField-clause-holds c fs f h =
    let a = ap (λ (p : State × Action). p.1) c.next-spot.ensures.next in
    rw (← a, c.in-EndField.is) (c.in_ok-end_field-in-EndField.ensures.holds fs f h)

pub returns-in_ok-end_field-in-EndRecord-clause-holds : goal.returns-in_ok-end_field-in-EndRecord-clause-holds
returns-in_ok-end_field-in-EndRecord-clause-holds c fs f h =
    let a = ap (λ (p : State × Action). p.1) c.next-spot.ensures.next in
    rw (← a, c.in-EndRecord.is) (c.in_ok-end_field-in-EndRecord.ensures.holds fs f h)
