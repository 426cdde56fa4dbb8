use Rattle.std.proofs.Common.{◌∙◌, ◌++◌, sym, ap}
use Rattle.std.specs.List.{flat_map}
use Rattle.std.proofs.lemmas.Iterator.{YieldsList-from_slice, YieldsList-from_zip}
use Rattle.std.proofs.lemmas.Iterator.Consumers.{YieldsList-end}
use Rattle.std.proofs.lemmas.List.Folds.{flat_map-map}
use Rattle.hh_rows.proofs.MemberFacts.{member_at, members_at}
use Rattle.hh_rows.proofs.json.push_others.Goals as goal

pub returns : goal.returns
returns c =
    let end = YieldsList-end
    (YieldsList-from_zip (YieldsList-from_slice c.args.names.now cc) (YieldsList-from_slice c.args.fields.now cc))
    c.loop-name.yielded c.loop-name.name-iterator c.loop-name.yielded_by c.next.result c.next.new.self c.in-None.is c.next.ensures.steps in
    let all = sym (flat_map-map member_at (λ p. (p.0.now, p.1.now)) c.loop-name.yielded) ∙ ap (flat_map member_at) end.0
    ∙ members_at c.args.names.now c.args.fields.now in
    c.loop-name.invariant ∙ ap (λ rest. c.args.text.now.items ++ rest) all
