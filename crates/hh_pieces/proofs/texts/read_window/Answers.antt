use Rattle.std.proofs.Common.{◌∙◌, ◌++◌, ap, sym}
use Rattle.std.specs.Prelude.{◌&&◌}
use Rattle.std.specs.Io.KnownBytes.{prepend_known}
use Rattle.std.proofs.lemmas.Result.{err_from_is_err_and}
use Rattle.hh_records.specs.Layouts.{config_of}
use Rattle.hh_pieces.specs.Pieces.{ends_outside}
use Rattle.hh_pieces.specs.Windows.{held_in}
use Rattle.hh_pieces.proofs.TakesFacts.{takes-as, takes-none}
use Rattle.hh_pieces.proofs.TurnFacts.{both-true, last-leaves, last-refused, leaves-first, leaves-held, outside-end, outside-held, outside-same, outside-then, refused-then, takes-then}
use Rattle.hh_pieces.proofs.texts.read_window.Goals as goal

pub loop-init : goal.loop-init
loop-init g c = (
  c.requires.bounded,
  takes-none g.T.TakeItems.with_item g.T.TakeItems.weight_taken c.args.taker.now _
      (leaves-first c.args.layout.now c.args.columns.now c.args.before (g.T.TakeItems.weight_taken c.args.taker.now) _),
  λ outside. outside-same (config_of c.args.layout.now) _,
)

pub returns-in_err-taken-clause-refused : goal.returns-in_err-taken-clause-refused
returns-in_err-taken-clause-refused g c =
    let p = err_from_is_err_and c.from_residual.result c.from_residual.ensures.1 in
    let so_far = c.loop.invariant.1 in
    rw (p.1, p.2) (refused-then c.args.layout.now c.args.columns.now c.args.before c.loop.number
    (g.T.TakeItems.weight_taken c.args.taker.now) (g.T.TakeItems.weight_taken c.loop.taker) so_far.xs _ _
    c.in_err-taken.field-0.0 so_far.weight so_far.given c.in_err-taken.ensures.refused)

-- more of the text is held
pub loop-preserved : goal.loop-preserved
loop-preserved g c =
    let (more, size, grown, consumed) = c.in-Ok.ensures.more in
    let held = grown ∙ ap (λ w. w ++ more) c.in_ok-make_room.ensures.held in
    let taken = takes-then c.args.layout.now c.args.columns.now g.T.TakeItems.with_item g.T.TakeItems.weight_taken
    c.args.taker.now c.loop.taker c.take_held.new.taker c.args.before c.loop.number c.in_ok-taken.taken.number _ _ _
    c.loop.invariant.1 c.in_ok-taken.ensures.items in (
      c.in_ok-taken.ensures.bounded,
      takes-as _ _ _ _ _ _ taken (λ xs leaves. rw held (leaves-held c.args.layout.now c.args.columns.now c.args.before
          (g.T.TakeItems.weight_taken c.args.taker.now) c.in_ok-taken.taken.number xs _ (g.R.Read.remaining c.take_held.new.reader)
          (g.R.Read.remaining c.read_more.new.reader) (held_in c.take_held.new.window) more leaves consumed)),
      λ outside.
          let both = both-true c.loop.outside c.in_ok-taken.taken.outside outside in
          rw held (outside-held (config_of c.args.layout.now) _ (g.R.Read.remaining c.take_held.new.reader)
          (g.R.Read.remaining c.read_more.new.reader) (held_in c.take_held.new.window) more
          (outside-then (config_of c.args.layout.now) _ _ _ (c.loop.invariant.2 both.0) (c.in_ok-taken.ensures.outside both.1)) consumed),
    )

-- the last records
pub returns-then-more-eq0-clause-items : goal.returns-then-more-eq0-clause-items
returns-then-more-eq0-clause-items g c =
    let (more, size, grown, consumed) = c.in-Ok.ensures.more in
    let held = grown ∙ ap (λ w. w ++ more) c.in_ok-make_room.ensures.held in
    let left = prepend_known (held_in c.read_more.new.self) (g.R.Read.remaining c.read_more.new.reader) in
    let taken = takes-then c.args.layout.now c.args.columns.now g.T.TakeItems.with_item g.T.TakeItems.weight_taken
    c.args.taker.now c.loop.taker c.take_held.new.taker c.args.before c.loop.number c.in_ok-taken.taken.number _ _ _
    c.loop.invariant.1 c.in_ok-taken.ensures.items in
    takes-then c.args.layout.now c.args.columns.now g.T.TakeItems.with_item g.T.TakeItems.weight_taken
    c.args.taker.now c.take_held.new.taker c.read_piece.new.taker c.args.before c.in_ok-taken.taken.number c.in_ok-number.number _ left _
    (takes-as _ _ _ _ _ _ taken (λ xs leaves. rw held (leaves-held c.args.layout.now c.args.columns.now c.args.before
    (g.T.TakeItems.weight_taken c.args.taker.now) c.in_ok-taken.taken.number xs _ (g.R.Read.remaining c.take_held.new.reader)
    (g.R.Read.remaining c.read_more.new.reader) (held_in c.take_held.new.window) more leaves consumed)))
    (takes-as _ _ _ _ _ _ c.in_ok-number.ensures.items (λ ys adds. last-leaves c.args.layout.now c.args.columns.now
    (held_in c.read_more.new.self) c.in_ok-taken.taken.number (g.T.TakeItems.weight_taken c.take_held.new.taker)
    (g.R.Read.remaining c.read_more.new.reader) (c.in-Ok.ensures.end c.if-more-eq0.true) c.in_ok-number.number ys
    (rw c.held-last.ensures at adds)))

pub returns-in_err-number-clause-refused : goal.returns-in_err-number-clause-refused
returns-in_err-number-clause-refused g c =
    let p = err_from_is_err_and c.from_residual-in_err-number.result c.from_residual-in_err-number.ensures.1 in
    let (more, size, grown, consumed) = c.in-Ok.ensures.more in
    let held = grown ∙ ap (λ w. w ++ more) c.in_ok-make_room.ensures.held in
    let left = prepend_known (held_in c.read_more.new.self) (g.R.Read.remaining c.read_more.new.reader) in
    let taken = takes-then c.args.layout.now c.args.columns.now g.T.TakeItems.with_item g.T.TakeItems.weight_taken
    c.args.taker.now c.loop.taker c.take_held.new.taker c.args.before c.loop.number c.in_ok-taken.taken.number _ _ _
    c.loop.invariant.1 c.in_ok-taken.ensures.items in
    rw (p.1, p.2) (refused-then c.args.layout.now c.args.columns.now c.args.before c.in_ok-taken.taken.number
    (g.T.TakeItems.weight_taken c.args.taker.now) (g.T.TakeItems.weight_taken c.take_held.new.taker) taken.xs _ left
    c.in_err-number.field-0.0 taken.weight
    (rw held (leaves-held c.args.layout.now c.args.columns.now c.args.before
    (g.T.TakeItems.weight_taken c.args.taker.now) c.in_ok-taken.taken.number taken.xs _ (g.R.Read.remaining c.take_held.new.reader)
    (g.R.Read.remaining c.read_more.new.reader) (held_in c.take_held.new.window) more taken.given consumed))
    (last-refused c.args.layout.now c.args.columns.now
    (held_in c.read_more.new.self) c.in_ok-taken.taken.number (g.T.TakeItems.weight_taken c.take_held.new.taker)
    (g.R.Read.remaining c.read_more.new.reader) (c.in-Ok.ensures.end c.if-more-eq0.true) c.in_err-number.field-0.0
    (rw c.held-last.ensures at c.in_err-number.ensures.refused)))

pub returns-then-more-eq0-clause-outside : goal.returns-then-more-eq0-clause-outside
returns-then-more-eq0-clause-outside g c = λ outside.
    let (more, size, grown, consumed) = c.in-Ok.ensures.more in
    let held = grown ∙ ap (λ w. w ++ more) c.in_ok-make_room.ensures.held in
    let all = both-true (c.loop.outside && c.in_ok-taken.taken.outside) c.ends_outside_quotes-outside.result outside in
    let both = both-true c.loop.outside c.in_ok-taken.taken.outside all.0 in
    let so_far = outside-held (config_of c.args.layout.now) _ (g.R.Read.remaining c.take_held.new.reader)
    (g.R.Read.remaining c.read_more.new.reader) (held_in c.take_held.new.window) more
    (outside-then (config_of c.args.layout.now) _ _ _ (c.loop.invariant.2 both.0) (c.in_ok-taken.ensures.outside both.1)) consumed in
    outside-end (config_of c.args.layout.now) _ (g.R.Read.remaining c.read_more.new.reader) (held_in c.read_more.new.self)
    (rw held so_far) (c.in-Ok.ensures.end c.if-more-eq0.true)
    (ap (ends_outside (config_of c.args.layout.now)) (sym c.held-last.ensures) ∙ sym c.ends_outside_quotes-outside.ensures ∙ all.1)
