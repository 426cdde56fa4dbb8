use Rattle.std.proofs.lemmas.List.{take_all}
use Rattle.hh_top.specs.Top.{ranking}
use Rattle.hh_top.proofs.laws.many_are_all.Goals as goal

pub returns : goal.returns
returns c = λ xs n few. take_all n (ranking xs) few
