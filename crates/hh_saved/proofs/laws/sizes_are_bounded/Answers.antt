use Rattle.hh_saved.proofs.Sizes.{one_size}
use Rattle.hh_saved.proofs.laws.sizes_are_bounded.Goals as goal

pub returns-clause-tables : goal.returns-clause-tables
returns-clause-tables c = one_size
