use Rattle.std.proofs.Common.{rules}
use Rattle.hh_files.proofs.by_plan.heavy_keys.Goals as goal

pub returns-in-Ok : goal.returns-in-Ok
returns-in-Ok c = search rules
