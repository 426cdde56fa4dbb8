use Rattle.hh_countmin.proofs.Families.{same_family-Decides}
use Rattle.hh_countmin.proofs.laws.equal_families_are_one.Goals as goal

pub returns : goal.returns
returns c = same_family-Decides
