use Rattle.std.proofs.Common.{ap, sym, subst}
use Rattle.json.specs.Find.{Finds, get}
use Rattle.hh_json.specs.Paths.{follow, named, parts_of}
use Rattle.hh_json.proofs.PathFacts.{from-drop, get-none}
use Rattle.hh_json.proofs.paths.named.Goals as goal

pub returns-then-is_pointer : goal.returns-then-is_pointer
returns-then-is_pointer c j begins =
    let rest = ap (λ text. follow (parts_of text) j) (from-drop 1 c.args.name.now) in
    rw (← c.is_pointer.ensures, c.if-is_pointer.true) (subst (Finds c.follow.result) rest (c.follow.ensures j begins))

pub returns-in_err-members : goal.returns-in_err-members
returns-in_err-members c j begins =
    let name = c.args.name.now in
    subst (λ r. Finds r (named name j)) (sym c.from_residual.ensures)
    (rw (← c.is_pointer.ensures, c.if-is_pointer.false) (get-none name j (c.in_err-members.ensures j begins)))

pub returns-in_ok-members : goal.returns-in_ok-members
returns-in_ok-members c j begins =
    let f = c.in_ok-members.ensures j begins in
    rw (← c.is_pointer.ensures, c.if-is_pointer.false)
    (subst (Finds c.member.result) (sym (ap (get c.args.name.now) f.1)) (c.member.ensures f.0 f.2))
