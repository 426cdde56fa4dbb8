use Rattle.std.proofs.Common.{◌+◌, ◌∙◌, sym}
use Rattle.std.proofs.lemmas.Result.{err_from_is_err_and}
use Rattle.hh_records.specs.Layouts.{config_of}
use Rattle.hh_pieces.proofs.TakesFacts.{takes-as, takes-none}
use Rattle.hh_pieces.proofs.TurnFacts.{leaves-first, outside-same, outside-then, record-leaves, record-refused, refused-then, takes-then}
use Rattle.hh_pieces.proofs.texts.take_records.Goals as goal

pub loop-taken-init : goal.loop-taken-init
loop-taken-init g c = (
  c.requires.bounded,
  takes-none g.T.TakeItems.with_item g.T.TakeItems.weight_taken c.args.taker.now _
      (leaves-first c.args.layout.now c.args.columns.now c.args.before (g.T.TakeItems.weight_taken c.args.taker.now) _),
  λ outside. outside-same (config_of c.args.layout.now) _,
)

pub loop-taken-preserved : goal.loop-taken-preserved
loop-taken-preserved g c =
    let weight = g.T.TakeItems.weight_taken c.loop-taken.taker in
    let found = rw (c.syntax_of-syntax.ensures, c.if-not-found.false) at c.in_ok-found.ensures.row in (
      c.in_ok-take_row.ensures.bounded,
      takes-then c.args.layout.now c.args.columns.now g.T.TakeItems.with_item g.T.TakeItems.weight_taken c.args.taker.now
          c.loop-taken.taker c.take_row.new.taker c.args.before c.loop-taken.taken.number (c.loop-taken.taken.number + 1) _ _ _
          c.loop-taken.invariant.1
          (takes-as _ _ _ _ _ _ c.in_ok-take_row.ensures.taken (λ es added. record-leaves c.args.layout.now c.args.columns.now
          c.of-limits.result c.loop-taken.taken.number weight _ _ _ (λ fs. c.of-limits.ensures weight fs)
          es found added)),
      λ outside. outside-then (config_of c.args.layout.now) _ _ _ (c.loop-taken.invariant.2 c.loop-taken-test.true)
          (rw c.syntax_of-syntax.ensures at (c.in_ok-found.ensures.outside (sym c.is_outside.ensures ∙ outside))),
    )

-- a record that was not taken
pub returns-in_err-take_row-clause-refused : goal.returns-in_err-take_row-clause-refused
returns-in_err-take_row-clause-refused g c =
    let p = err_from_is_err_and c.from_residual-in_err-take_row.result c.from_residual-in_err-take_row.ensures.1 in
    let weight = g.T.TakeItems.weight_taken c.loop-taken.taker in
    let found = rw (c.syntax_of-syntax.ensures, c.if-not-found.false) at c.in_ok-found.ensures.row in
    let so_far = c.loop-taken.invariant.1 in
    rw (p.1, p.2) (refused-then c.args.layout.now c.args.columns.now c.args.before c.loop-taken.taken.number
    (g.T.TakeItems.weight_taken c.args.taker.now) weight so_far.xs _ _ c.in_err-take_row.field-0.0 so_far.weight so_far.given
    (record-refused c.args.layout.now c.args.columns.now c.of-limits.result c.loop-taken.taken.number weight _ _ _
    (λ fs. c.of-limits.ensures weight fs) c.in_err-take_row.field-0.0 found
    c.in_err-take_row.ensures.refused))

-- the end of the text
pub returns-then-not-found-clause-outside : goal.returns-then-not-found-clause-outside
returns-then-not-found-clause-outside g c = λ outside.
    outside-then (config_of c.args.layout.now) _ _ _ (c.loop-taken.invariant.2 c.loop-taken-test.true)
    (rw c.syntax_of-syntax.ensures at (c.in_ok-found.ensures.outside (sym c.is_outside.ensures ∙ outside)))
