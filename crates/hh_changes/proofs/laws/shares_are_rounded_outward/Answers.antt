use Rattle.hh_changes.proofs.ShareFacts.{shares_are_rounded_outward}
use Rattle.hh_changes.proofs.laws.shares_are_rounded_outward.Goals as goal

pub returns : goal.returns
returns c = shares_are_rounded_outward
