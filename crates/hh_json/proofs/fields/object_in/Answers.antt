use Rattle.std.proofs.Common.{◌∙◌, ap, sym, subst}
use Rattle.std.specs.Option.{IsSome}
use Rattle.json.specs.Find.{BeginsWith}
use Rattle.json.specs.Json.{document}
use Rattle.hh_json.proofs.ObjectFacts.{object-none, object-other, object-read}
use Rattle.hh_json.proofs.fields.object_in.Goals as goal

pub returns-in_default : goal.returns-in_default
returns-in_default c = object-none c.args.line.now (λ text. absurd (c.in_default.ensures.cases.0 text))

pub returns-then-is_some : goal.returns-then-is_some
returns-then-is_some c =
    let read = c.in-Ok.ensures.cases in
    let tape = c.in-Ok-parse.ensures in
    object-read c.args.line.now c.in-Ok-parse.tape c.members.result read.1
    (subst (λ s. IsSome (document s)) read.0 tape.ok.1)
    (λ j e. tape.value j (ap document read.0 ∙ e))
    (λ j begins. c.members.ensures j (subst (λ ts. BeginsWith ts j) (sym c.root.ensures.same) begins))
    (sym c.is_some.ensures ∙ c.if-is_some.true)

pub returns-in-Ok-parse : goal.returns-in-Ok-parse
returns-in-Ok-parse c =
    let read = c.in-Ok.ensures.cases in
    let tape = c.in-Ok-parse.ensures in
    object-other c.args.line.now c.in-Ok-parse.tape c.members.result read.1
    (subst (λ s. IsSome (document s)) read.0 tape.ok.1)
    (λ j e. tape.value j (ap document read.0 ∙ e))
    (λ j begins. c.members.ensures j (subst (λ ts. BeginsWith ts j) (sym c.root.ensures.same) begins))
    (sym c.is_some.ensures ∙ c.if-is_some.false)
