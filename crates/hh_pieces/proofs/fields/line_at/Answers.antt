use Rattle.std.proofs.Common.{◌≡◌, ◌==◌, ◌<◌, ◌+◌, arith, false, get_or, length}
use Rattle.std.proofs.lemmas.Bool.{eq-eqb, ne_eqb}
use Rattle.hh_pieces.proofs.FieldFacts.{feed-behind, feed-there, line-is, more-parts, one-part, two-parts}
use Rattle.hh_pieces.proofs.fields.line_at.Goals as goal
use Rattle.hh_pieces.proofs.fields.line_at.Goals.{then-key_end-text-via-then-key_end-text, then-key_end-text-via-else-key_end-text+then-text-key_end}
use Rattle.hh_pieces.proofs.fields.line_at.Goals.{then-end-text-via-then-end-text, then-end-text-via-else-end-text+then-text-end}

pub returns-then-key_end-text-clause-end : goal.returns-then-key_end-text-clause-end
returns-then-key_end-text-clause-end c =
    let text = c.args.text.now in
    let e = c.field_end-key_end.result in
    let differs : (e < length text → (get_or text e 0 == c.args.delimiter) ≡ false) = elim c.then-key_end-text.branch [
      | then-key_end-text-via-then-key_end-text w ↦ λ l. absurd (omega (arith, l, w.if-key_end-text.true))
      | then-key_end-text-via-else-key_end-text+then-text-key_end w ↦ λ _. ne_eqb _ _ w.if-text-key_end.true
    ] in
    line-is text c.args.from e c.requires.no_return (feed-there c.args.delimiter text c.args.from e c.field_end-key_end.ensures differs)

pub returns-then-key_end-text-clause-parts : goal.returns-then-key_end-text-clause-parts
returns-then-key_end-text-clause-parts c =
    let h = c.field_end-key_end.ensures in
    one-part c.args.delimiter c.args.text.now c.args.from c.field_end-key_end.result h.after h.within h

pub returns-then-end-text-clause-end : goal.returns-then-end-text-clause-end
returns-then-end-text-clause-end c =
    let text = c.args.text.now in
    let k = c.field_end-key_end.result in
    let e = c.field_end-end.result in
    let differs : (e < length text → (get_or text e 0 == c.args.delimiter) ≡ false) = elim c.then-end-text.branch [
      | then-end-text-via-then-end-text w ↦ λ l. absurd (omega (arith, l, w.if-end-text.true))
      | then-end-text-via-else-end-text+then-text-end w ↦ λ _. ne_eqb _ _ w.if-text-end.true
    ] in
    line-is text c.args.from e c.requires.no_return
    (feed-behind c.args.delimiter text c.args.from k e c.requires.apart c.field_end-key_end.ensures (eq-eqb _ _ c.if-text-key_end.false)
    (feed-there c.args.delimiter text (k + 1) e c.field_end-end.ensures differs))

pub returns-then-end-text-clause-parts : goal.returns-then-end-text-clause-parts
returns-then-end-text-clause-parts c =
    let h = c.field_end-key_end.ensures in
    let g = c.field_end-end.ensures in
    two-parts c.args.delimiter c.args.text.now c.args.from c.field_end-end.result (omega (arith, h.after, g.after)) g.within
    c.field_end-key_end.result h (eq-eqb _ _ c.if-text-key_end.false) (omega (arith, g.after)) g

pub returns-clause-end : goal.returns-clause-end
returns-clause-end c =
    let text = c.args.text.now in
    let k = c.field_end-key_end.result in
    let m = c.field_end-end.result in
    let e = c.feed_from.result in
    line-is text c.args.from e c.requires.no_return
    (feed-behind c.args.delimiter text c.args.from k e c.requires.apart c.field_end-key_end.ensures (eq-eqb _ _ c.if-text-key_end.false)
    (feed-behind c.args.delimiter text (k + 1) m e c.requires.apart c.field_end-end.ensures (eq-eqb _ _ c.if-text-end.false)
    c.feed_from.ensures))

pub returns-clause-parts : goal.returns-clause-parts
returns-clause-parts c =
    let h = c.field_end-key_end.ensures in
    let g = c.field_end-end.ensures in
    let f = c.feed_from.ensures in
    more-parts c.args.delimiter c.args.text.now c.args.from c.feed_from.result (omega (arith, h.after, g.after, f.after)) f.within
    c.field_end-key_end.result h (eq-eqb _ _ c.if-text-key_end.false) (omega (arith, g.after, f.after))
    c.field_end-end.result (omega (arith, f.after)) g (eq-eqb _ _ c.if-text-end.false)
