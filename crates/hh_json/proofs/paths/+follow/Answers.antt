use Rattle.std.proofs.Common.{◌∙◌, refl, ap, sym, subst}
use Rattle.json.specs.Find.{Finds}
use Rattle.hh_json.specs.Paths.{follow, parts_of}
use Rattle.hh_json.proofs.PathFacts.{last-step, parts-more, parts-one}
use Rattle.hh_json.proofs.paths.+follow.Goals as goal

pub returns-in_err-step-in-Some : goal.returns-in_err-step-in-Some
returns-in_err-step-in-Some t c j begins =
    let parts = c.args.parts.now in
    let found = c.in-Some.ensures in
    let cut = parts-more parts c.in-Some.end found.0.high found.0.before found.1 in
    subst (λ r. Finds r (follow (parts_of parts) j)) (sym c.from_residual.ensures)
    (rw (cut, c.in_err-step-in-Some.ensures j begins) refl)

pub returns-in_ok-step-in-Some : goal.returns-in_ok-step-in-Some
returns-in_ok-step-in-Some t c j begins =
    let found = c.in-Some.ensures in
    let cut = parts-more c.args.parts.now c.in-Some.end found.0.high found.0.before found.1 in
    let f = c.in_ok-step-in-Some.ensures j begins in
    subst (Finds c.follow.result) (sym (rw (cut, f.1) refl)) (c.follow.ensures f.0 f.2)

pub returns-in-None : goal.returns-in-None
returns-in-None t c j begins =
    let one = ap (λ parts. follow parts j) (parts-one c.args.parts.now c.in-None.ensures) in
    subst (Finds c.step-in-None.result) (sym (one ∙ last-step _)) (c.step-in-None.ensures j begins)
