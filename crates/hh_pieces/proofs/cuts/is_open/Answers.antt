use Rattle.std.proofs.Common.{rules}
use Rattle.hh_pieces.proofs.cuts.is_open.Goals as goal

pub returns-in-Quoted : goal.returns-in-Quoted
returns-in-Quoted c = search rules
