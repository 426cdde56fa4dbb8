use Rattle.std.proofs.Common.{refl}
use Rattle.hh_rows.proofs.laws.plain_rows_are_rows.Goals as goal

pub returns : goal.returns
returns c = λ total d es. refl
