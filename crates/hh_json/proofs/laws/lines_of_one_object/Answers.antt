use Rattle.hh_json.proofs.LawFacts.{lines_of_one_object}
use Rattle.hh_json.proofs.laws.lines_of_one_object.Goals as goal

pub returns : goal.returns
returns c = lines_of_one_object
