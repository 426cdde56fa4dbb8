use Rattle.std.proofs.Common.{rules}
use Rattle.hh_tally.proofs.Raising.{lowered_pairs}
use Rattle.hh_tally.proofs.lowering.lower_all.Goals as goal

pub returns : goal.returns
returns c = lowered_pairs _ c.args.t _ (λ k v b w g call. search rules) _ _ c.retain.ensures.filtered
