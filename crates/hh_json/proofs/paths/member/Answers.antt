use Rattle.std.proofs.Common.{◌≡◌, ◌∙◌, None, Some, refl, sym, ap, subst, true≢false}
use Rattle.json.specs.Find.{Finds, get_member, later_or}
use Rattle.json.specs.Json.{no_members}
use Rattle.hh_json.specs.Paths.{part_name}
use Rattle.hh_json.proofs.MemberFacts.{member-here, member-other, nothing-earlier}
use Rattle.hh_json.proofs.paths.member.Goals as goal

pub loop-name-init : goal.loop-name-init
loop-name-init c ms inside = (ms, None, inside, refl, nothing-earlier _)

pub loop-name-preserved-then-is_named : goal.loop-name-preserved-then-is_named
loop-name-preserved-then-is_named c ms inside =
    let name = part_name c.args.is_escaped c.args.part.now in
    let now = c.loop-name.invariant ms inside in
    let f = c.in-Some.ensures.value now.0 now.2 in
    let turn = now.4 ∙ ap (λ rest. later_or (get_member name rest) now.1) f.2 in
    let same = sym (c.is_named.ensures.0 c.if-is_named.true ∙ c.as_bytes.ensures.value) in
    (f.1, Some f.0, f.4, (f.0, refl, f.3), turn ∙ member-here name _ f.0 f.1 now.1 same)

pub loop-name-preserved : goal.loop-name-preserved
loop-name-preserved c ms inside =
    let name = part_name c.args.is_escaped c.args.part.now in
    let now = c.loop-name.invariant ms inside in
    let f = c.in-Some.ensures.value now.0 now.2 in
    let turn = now.4 ∙ ap (λ rest. later_or (get_member name rest) now.1) f.2 in
    let text = c.as_bytes.ensures.value in (
      f.1,
      now.1,
      f.4,
      now.3,
      turn ∙ member-other name _ f.0 f.1 now.1
          (λ same. true≢false (sym (c.is_named.ensures.1 (sym same ∙ sym text)) ∙ c.if-is_named.false)),
    )

pub returns : goal.returns
returns c ms inside =
    let name = part_name c.args.is_escaped c.args.part.now in
    let now = c.loop-name.invariant ms inside in
    let done : now.0 ≡ no_members = c.in_default.ensures.value now.0 now.2 in
    subst (Finds c.loop-name.found) (sym (now.4 ∙ ap (λ rest. later_or (get_member name rest) now.1) done)) now.3
