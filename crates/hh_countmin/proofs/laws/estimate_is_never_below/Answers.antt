use Rattle.hh_countmin.specs.Family.{cell_of}
use Rattle.hh_countmin.specs.Table.{cell_sum}
use Rattle.hh_countmin.proofs.Estimates.{weight_of-le-estimate_of, least_of_rows-is_least}
use Rattle.hh_countmin.proofs.laws.estimate_is_never_below.Goals as goal

pub returns-clause-never_below : goal.returns-clause-never_below
returns-clause-never_below c = weight_of-le-estimate_of

pub returns-clause-least : goal.returns-clause-least
returns-clause-least c = λ family width key xs some. least_of_rows-is_least family
    (λ r. cell_sum family width r (cell_of family r key width) xs) some
