use Rattle.std.proofs.lemmas.Result.{err_from_is_err_and}
use Rattle.hh_records.specs.Layouts.{config_of}
use Rattle.hh_pieces.proofs.TakesFacts.{takes-as, takes-none}
use Rattle.hh_pieces.proofs.TurnFacts.{leaves-first, outside-same, outside-then, refused-then, takes-then}
use Rattle.hh_pieces.proofs.texts.take_held.Goals as goal

pub loop-init : goal.loop-init
loop-init g c = (
  c.requires.bounded,
  takes-none g.T.TakeItems.with_item g.T.TakeItems.weight_taken c.args.taker.now _
      (leaves-first c.args.layout.now c.args.columns.now c.args.before (g.T.TakeItems.weight_taken c.args.taker.now) _),
  λ outside. outside-same (config_of c.args.layout.now) _,
)

-- whole records that are refused
pub returns-in_err-number-clause-refused : goal.returns-in_err-number-clause-refused
returns-in_err-number-clause-refused g c =
    let w = g.T.TakeItems.weight_taken in
    let so_far = c.loop.invariant.1 in
    let p = err_from_is_err_and c.from_residual.result c.from_residual.ensures.1 in
    rw (p.1, p.2) (refused-then c.args.layout.now c.args.columns.now c.args.before c.loop.taken.number (w c.args.taker.now)
    (w c.loop.taker) so_far.xs _ _ c.in_err-number.field-0.0 so_far.weight so_far.given
    (c.in_err-number.ensures.refused (g.R.Read.remaining c.loop.reader)))

pub returns-then-not-outside-clause-items : goal.returns-then-not-outside-clause-items
returns-then-not-outside-clause-items g c =
    takes-then c.args.layout.now c.args.columns.now g.T.TakeItems.with_item g.T.TakeItems.weight_taken c.args.taker.now
    c.loop.taker c.take_whole.new.taker c.args.before c.loop.taken.number c.in_ok-number.number _ _ _ c.loop.invariant.1
    (takes-as _ _ _ _ _ _ c.in_ok-number.ensures.items (λ xs leaves. leaves (g.R.Read.remaining c.loop.reader)))

-- a record that is refused
pub returns-in_err-taken-clause-refused : goal.returns-in_err-taken-clause-refused
returns-in_err-taken-clause-refused g c =
    let w = g.T.TakeItems.weight_taken in
    let whole = takes-then c.args.layout.now c.args.columns.now g.T.TakeItems.with_item w c.args.taker.now
    c.loop.taker c.take_whole.new.taker c.args.before c.loop.taken.number c.in_ok-number.number _ _ _ c.loop.invariant.1
    (takes-as _ _ _ _ _ _ c.in_ok-number.ensures.items (λ xs leaves. leaves (g.R.Read.remaining c.loop.reader))) in
    let p = err_from_is_err_and c.from_residual-in_err-taken.result c.from_residual-in_err-taken.ensures.1 in
    rw (p.1, p.2) (refused-then c.args.layout.now c.args.columns.now c.args.before c.in_ok-number.number (w c.args.taker.now)
    (w c.take_whole.new.taker) whole.xs _ _ c.in_err-taken.field-0.0 whole.weight whole.given c.in_err-taken.ensures.refused)

pub loop-preserved : goal.loop-preserved
loop-preserved g c =
    let w = g.T.TakeItems.weight_taken in
    let cfg = config_of c.args.layout.now in
    let whole = takes-then c.args.layout.now c.args.columns.now g.T.TakeItems.with_item w c.args.taker.now
    c.loop.taker c.take_whole.new.taker c.args.before c.loop.taken.number c.in_ok-number.number _ _ _ c.loop.invariant.1
    (takes-as _ _ _ _ _ _ c.in_ok-number.ensures.items (λ xs leaves. leaves (g.R.Read.remaining c.loop.reader))) in (
      c.in_ok-taken.ensures.bounded,
      takes-then c.args.layout.now c.args.columns.now g.T.TakeItems.with_item w c.args.taker.now c.take_whole.new.taker
          c.take_records.new.taker c.args.before c.in_ok-number.number c.in_ok-taken.taken.number _ _ _ whole c.in_ok-taken.ensures.items,
      λ outside. outside-then cfg _ _ _ (outside-then cfg _ _ _ (c.loop.invariant.2 c.if-not-outside.false)
          (c.in_ok-number.ensures.outside (g.R.Read.remaining c.loop.reader))) (c.in_ok-taken.ensures.outside outside),
    )
