use Rattle.hh_saved.proofs.Values.{read_alike}
use Rattle.hh_saved.proofs.laws.files_read_alike_hold_one_value.Goals as goal

pub returns : goal.returns
returns c = read_alike
