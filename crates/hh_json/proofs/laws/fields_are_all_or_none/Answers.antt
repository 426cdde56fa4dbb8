use Rattle.hh_json.proofs.LawFacts.{fields_are_all_or_none}
use Rattle.hh_json.proofs.laws.fields_are_all_or_none.Goals as goal

pub returns : goal.returns
returns c = fields_are_all_or_none
