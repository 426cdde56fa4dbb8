use Rattle.hh_countmin.proofs.Families.{same_family-Decides}
use Rattle.std.proofs.lemmas.Bool.Decides.{Decides-at}
use Rattle.hh_countmin.proofs.table.are_one.Goals as goal

pub returns : goal.returns
returns c = Decides-at c.eq.result _ c.eq.ensures (same_family-Decides c.args.family.now c.args.other.now)
