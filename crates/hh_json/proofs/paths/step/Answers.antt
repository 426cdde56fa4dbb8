use Rattle.std.proofs.Common.{◌∙◌, refl, sym, subst}
use Rattle.json.specs.Find.{Finds}
use Rattle.hh_json.specs.Paths.{step}
use Rattle.hh_json.proofs.PathFacts.{step-item}
use Rattle.hh_json.proofs.paths.step.Goals as goal

pub returns-in_err-index_of-in-None : goal.returns-in_err-index_of-in-None
returns-in_err-index_of-in-None c j begins =
    let part = c.args.part.now in
    subst (λ r. Finds r (step part j)) (sym c.from_residual.ensures)
    (step-item part j (c.in-None.ensures j begins) ∙ rw (← c.in_err-index_of-in-None.ensures) refl)

pub returns-in-Some : goal.returns-in-Some
returns-in-Some c j begins =
    let f = c.in-Some.ensures j begins in
    subst (λ x. Finds c.member.result (step c.args.part.now x)) (sym f.1) (c.member.ensures f.0 f.2)

pub returns-in_ok-index_of-in-None : goal.returns-in_ok-index_of-in-None
returns-in_ok-index_of-in-None c j begins =
    let part = c.args.part.now in
    let item = step-item part j (c.in-None.ensures j begins) in
    subst (Finds c.at.result) (sym (item ∙ rw (← c.in_ok-index_of-in-None.ensures) refl)) (c.at.ensures j begins)
