use Rattle.std.proofs.lemmas.Result.{err_from_is_err_and}
use Rattle.hh_files.proofs.ReportFacts.{no_plan}
use Rattle.hh_files.proofs.by_plan.prepare.Goals as goal

pub returns-in_err-plan-clause-refused : goal.returns-in_err-plan-clause-refused
returns-in_err-plan-clause-refused c =
    let p = err_from_is_err_and c.from_residual-in_err-plan.result c.from_residual-in_err-plan.ensures.1 in
    rw (p.1, p.2)
    (λ known. no_plan c.args.options.now known c.in_err-plan.field-0.0 c.in_ok-p.ensures.tests c.in_err-plan.ensures.refused)
