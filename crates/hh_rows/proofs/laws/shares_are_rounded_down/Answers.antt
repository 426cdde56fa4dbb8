use Rattle.hh_rows.proofs.ShareFacts.{shares_are_rounded_down}
use Rattle.hh_rows.proofs.laws.shares_are_rounded_down.Goals as goal

pub returns : goal.returns
returns c = shares_are_rounded_down
