use Rattle.std.proofs.Common.{◌≡◌, ◌∙◌, [], length, sym, ap, arith, eqb-true, eq-eqb}
use Rattle.std.proofs.lemmas.List.{drop_all}
use Rattle.serde_json.specs.Find.{unescape}
use Rattle.hh_json.proofs.paths.unescapes_to.Goals as goal

pub returns : goal.returns
unfolding unescape
returns c =
    let inv = c.loop-byte.invariant in
    let none : unescape c.loop-byte.part_left.now ≡ [] = ap unescape c.in_default.ensures in
    let left = c.loop-byte.name_left.now in (
      λ empty. inv.1 (none ∙ sym (drop_all 0 left (omega (arith, eqb-true _ _ (sym c.is_empty.ensures ∙ empty))))),
      λ same. c.is_empty.ensures ∙ eq-eqb _ _ (ap length (sym (inv.0 same) ∙ none)),
    )
