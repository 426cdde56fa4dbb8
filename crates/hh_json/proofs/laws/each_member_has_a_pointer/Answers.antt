use Rattle.hh_json.proofs.LawFacts.{each_member_has_a_pointer}
use Rattle.hh_json.proofs.laws.each_member_has_a_pointer.Goals as goal

pub returns : goal.returns
returns c = each_member_has_a_pointer
