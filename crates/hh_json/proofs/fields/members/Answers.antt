use Rattle.std.proofs.Common.{◌∙◌, ap, sym, subst}
use Rattle.std.specs.List.{flat_map}
use Rattle.std.specs.Prelude.{option_map}
use Rattle.csv.specs.Records.{fields_of}
use Rattle.json.specs.Find.{BeginsWith, Finds}
use Rattle.hh_json.specs.Fields.{object_in}
use Rattle.hh_json.proofs.FieldFacts.{fields-found}
use Rattle.hh_json.proofs.fields.members.Goals as goal
use Rattle.hh_json.proofs.fields.members.Goals.{else-not-branch, then-not-branch}

pub returns : goal.returns
returns g c =
    let names = flat_map g.N.MemberName.said c.args.names.now in
    let weight = option_map (λ name. name.now) c.args.weight in
    let f = subst (λ o. Finds o (object_in c.args.line.now)) c.in-Some.is c.in_ok-object.ensures in
    let pushed = c.in_ok-push_members.ensures f.0 (subst (λ ts. BeginsWith ts f.0) (sym c.root.ensures.same) f.2) in
    let found = fields-found names weight c.args.line.now f.0 c.in_ok-push_members.field-0 _ _ f.1 c.clear.ensures.fields pushed in
    elim c.if-not-branch.branch [
      | then-not-branch w ↦ ap fields_of w.fields-is ∙ w.clear-then-not-branch.ensures.fields ∙ rw w.if-not-branch.true at found
      | else-not-branch w ↦ ap fields_of w.fields-is ∙ rw w.if-not-branch.false at found
    ]
