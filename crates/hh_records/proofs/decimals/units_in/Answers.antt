use Rattle.hh_records.proofs.DecimalFacts.{units-none}
use Rattle.hh_records.proofs.decimals.units_in.Goals as goal

pub returns-then-decimals-eq0 : goal.returns-then-decimals-eq0
returns-then-decimals-eq0 c =
    rw c.if-decimals-eq0.true
    (units-none 18446744073709551615 c.args.field.now c.number_in.result c.number_in.ensures.number)
