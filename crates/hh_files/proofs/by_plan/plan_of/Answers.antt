use Rattle.std.proofs.lemmas.Result.{IfErr-weaker}
use Rattle.hh_files.proofs.ReportFacts.{text_unmade}
use Rattle.hh_files.proofs.by_plan.plan_of.Goals as goal

pub returns-in-Text-clause-refused : goal.returns-in-Text-clause-refused
returns-in-Text-clause-refused c =
    rw c.in-Text.is (IfErr-weaker c.parse.result _ _ (text_unmade c.in-Text.text c.args.pieces)
    (rw c.deref.ensures.value at c.parse.ensures.refused))
