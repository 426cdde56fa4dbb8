use Rattle.std.proofs.Common.{◌∙◌, ◌++◌, ap, arith, drop, length, length-append}
use Rattle.std.specs.Io.KnownBytes.{prepend_known}
use Rattle.hh_pieces.specs.Quotes.{mark_len}
use Rattle.hh_pieces.specs.Windows.{held_in}
use Rattle.hh_pieces.proofs.LongFacts.{keeps-more, mark-removed, mark-removed-last}
use Rattle.hh_pieces.proofs.long_record.skip_mark.Goals as goal

pub loop-window-preserved : goal.loop-window-preserved
loop-window-preserved g c =
    let (more, size, grown, consumed) = c.in-Ok.ensures.more in
    let held = grown ∙ ap (λ w. w ++ more) c.in_ok-make_room.ensures.held in
    rw held (keeps-more (prepend_known (held_in c.args.window.now) (g.R.Read.remaining c.args.reader.now))
    (g.R.Read.remaining c.loop-window.reader) (g.R.Read.remaining c.read_more.new.reader) (held_in c.loop-window.window) more
    c.loop-window.invariant consumed)

pub loop-window-smaller : goal.loop-window-smaller
loop-window-smaller g c =
    let (more, size, grown, consumed) = c.in-Ok.ensures.more in
    let held = grown ∙ ap (λ w. w ++ more) c.in_ok-make_room.ensures.held in
    let long = length-append (held_in c.loop-window.window) more in
    omega (arith, ap length held, long, size, c.if-more-eq0.false, c.loop-window-test.true)

-- all that the text has left is held
pub returns-then-more-eq0-clause-left : goal.returns-then-more-eq0-clause-left
returns-then-more-eq0-clause-left g c =
    let (more, size, grown, consumed) = c.in-Ok.ensures.more in
    let held = grown ∙ ap (λ w. w ++ more) c.in_ok-make_room.ensures.held in
    let p = prepend_known (held_in c.args.window.now) (g.R.Read.remaining c.args.reader.now) in
    let kept = keeps-more p (g.R.Read.remaining c.loop-window.reader) (g.R.Read.remaining c.read_more.new.reader)
    (held_in c.loop-window.window) more c.loop-window.invariant consumed in
    let left = c.remove.ensures ∙ ap (λ n. drop n (held_in c.read_more.new.self)) (c.mark_len.ensures ∙ ap mark_len c.held.ensures) in
    rw left (mark-removed-last p (g.R.Read.remaining c.read_more.new.reader) (held_in c.read_more.new.self)
    (rw held kept) (c.in-Ok.ensures.end c.if-more-eq0.true))

-- as many bytes are held as a mark has
pub returns-clause-left : goal.returns-clause-left
returns-clause-left g c =
    let p = prepend_known (held_in c.args.window.now) (g.R.Read.remaining c.args.reader.now) in
    let left = c.remove-2.ensures ∙ ap (λ n. drop n (held_in c.loop-window.window)) (c.mark_len-2.ensures ∙ ap mark_len c.held-2.ensures) in
    rw left (mark-removed p (g.R.Read.remaining c.loop-window.reader) (held_in c.loop-window.window) c.loop-window.invariant
    (omega (arith, c.len.ensures, c.loop-window-test.false)))
