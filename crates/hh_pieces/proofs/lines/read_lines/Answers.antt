use Rattle.std.proofs.Common.{◌++◌, ◌<◌, [], arith, ◌∙◌, sym, refl, ap}
use Rattle.std.specs.Prelude.{fold}
use Rattle.std.proofs.lemmas.List.Elements.{All-append, All-from_recursion}
use Rattle.std.proofs.lemmas.List.Sums.{fold-append, sum_by-append}
use Rattle.std.proofs.lemmas.Result.{err_from_is_err_and}
use Rattle.hh_stream.specs.Weights.{Entry}
use Rattle.hh_records.specs.Formats.{part_said}
use Rattle.hh_pieces.specs.Lines.{line_parts}
use Rattle.hh_pieces.proofs.SplitFacts.{lines-blank, lines-more, lines-none, lines-refused}
use Rattle.hh_pieces.proofs.lines.read_lines.Goals as goal
use Rattle.hh_pieces.proofs.lines.read_lines.Goals.{then-from-end+in_ok-take_parts, else-from-end}

-- an item has a weight
abbrev Weighs : Entry → Type 0
Weighs e = 0 < e.1

pub loop-from-init : goal.loop-from-init
loop-from-init g c = (
  c.requires.bounded,
  omega arith,
  (
    [],
    omega arith,
    All-from_recursion Weighs [] tt,
    refl,
    lines-none c.args.layout.now (line_parts (part_said c.args.layout.now.part) c.args.cut) c.args.before (g.T.TakeItems.weight_taken c.args.taker.now) c.args.text.now,
  ),
)

pub returns-in_err-take_parts-clause-refused : goal.returns-in_err-take_parts-clause-refused
returns-in_err-take_parts-clause-refused g c =
    let p = err_from_is_err_and c.from_residual.result c.from_residual.ensures.1 in
    let (xs, total, weigh, made, so_far) = c.loop-from.invariant.2 in
    let line = c.parts_from-end.ensures in
    rw (p.1, p.2) (lines-refused c.args.layout.now (line_parts (part_said c.args.layout.now.part) c.args.cut) c.args.before (g.T.TakeItems.weight_taken c.args.taker.now) c.args.text.now
    c.loop-from.from c.parts_from-end.result.1 xs c.loop-from.number line.after line.within line.end so_far c.if-from-end.true
    c.in_err-take_parts.field-0.0 (rw (← total) (rw (rw line.parts at c.key_parts-parts.ensures) at c.in_err-take_parts.ensures.refused)))

pub loop-from-preserved : goal.loop-from-preserved
loop-from-preserved g c =
    let (xs, total, weigh, made, so_far) = c.loop-from.invariant.2 in
    let line = c.parts_from-end.ensures in
    elim c.if-from-end.branch [
      | then-from-end+in_ok-take_parts w ↦
          let t = w.in_ok-take_parts.ensures.taken in
          rw (w.taker-is, w.number-is) (
            w.in_ok-take_parts.ensures.bounded,
            omega (arith, c.loop-from.invariant.1, w.if-from-end.true),
            (
              xs ++ t.xs,
              omega (arith, t.weight, total, sum_by-append (λ (d : Entry). d.1) xs t.xs),
              All-append Weighs xs t.xs weigh t.positive,
              t.taken ∙ ap (λ taker. fold g.T.TakeItems.with_item taker t.xs) made
                  ∙ sym (fold-append g.T.TakeItems.with_item c.args.taker.now xs t.xs),
              lines-more c.args.layout.now (line_parts (part_said c.args.layout.now.part) c.args.cut) c.args.before (g.T.TakeItems.weight_taken c.args.taker.now) c.args.text.now
                  c.loop-from.from c.parts_from-end.result.1 xs c.loop-from.number line.after line.within line.end so_far w.if-from-end.true t.xs
                  (rw (← total) (rw (rw line.parts at w.key_parts-parts.ensures) at t.given)),
            ),
          )
      | else-from-end w ↦
          rw (w.taker-is, w.number-is) (
            c.loop-from.invariant.0,
            omega (arith, c.loop-from.invariant.1, line.after),
            (
              xs,
              total,
              weigh,
              made,
              lines-blank c.args.layout.now (line_parts (part_said c.args.layout.now.part) c.args.cut) c.args.before (g.T.TakeItems.weight_taken c.args.taker.now) c.args.text.now
                  c.loop-from.from c.parts_from-end.result.1 xs c.loop-from.number line.after line.within line.end so_far
                  (omega (arith, w.if-from-end.false)),
            ),
          )
    ]
