use Rattle.hh_json.proofs.LawFacts.{last_member_counts}
use Rattle.hh_json.proofs.laws.last_member_counts.Goals as goal

pub returns : goal.returns
returns c = last_member_counts
