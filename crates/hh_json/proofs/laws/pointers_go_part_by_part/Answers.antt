use Rattle.hh_json.proofs.LawFacts.{pointers_go_part_by_part}
use Rattle.hh_json.proofs.laws.pointers_go_part_by_part.Goals as goal

pub returns : goal.returns
returns c = pointers_go_part_by_part
