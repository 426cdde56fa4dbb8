use Rattle.std.proofs.Common.{◌-◌, ◌+◌, ◌≡◌, ◌∷◌, ◌++◌, ◌∙◌, [], drop, get_or, length, take, true, sym, ap, arith, take_all}
use Rattle.std.specs.Io.KnownBytes.{prepend_known}
use Rattle.std.proofs.lemmas.List.{drop_all, drop_more, nil_from_length, take-append-drop}
use Rattle.csv.specs.declared.parser.State.TheVariants as st
use Rattle.csv.proofs.ReadFacts.{tracks-fed-end}
use Rattle.hh_pieces.specs.LongRecords.{config_for, state_of}
use Rattle.hh_pieces.specs.Windows.{held_in}
use Rattle.hh_pieces.proofs.LongFacts.{finished, fresh-holds, fresh-tracks, leaves-found, leaves-marked, outside-found, outside-last, stands-fed, stands-on, stands-start, tracks-on}
use Rattle.hh_pieces.proofs.long_record.LongRecord.read.Goals as goal

pub loop-init : goal.loop-init
loop-init g c = (
  [],
  [],
  fresh-holds c.args.limits c.clear.new.self c.clear.ensures,
  fresh-tracks (config_for c.args.syntax)
      (prepend_known (held_in c.skip_mark.new.window) (g.R.Read.remaining c.skip_mark.new.reader)) c.clear.new.self c.clear.ensures,
  stands-start (config_for c.args.syntax)
      (prepend_known (held_in c.skip_mark.new.window) (g.R.Read.remaining c.skip_mark.new.reader)) c.clear.new.self c.clear.ensures,
)

-- bytes of the record, and what is read behind them
pub loop-preserved : goal.loop-preserved
loop-preserved g c =
    let (fs, f, holds, tracks, stands) = c.loop.invariant in
    let e = c.in_ok-count.ensures in
    let (gs, h, held, feeds) = e.fed fs f holds in
    let (more, size, grown, consumed) = c.in-Ok.ensures.more in
    let all = e.all c.if-ended.false in
    let left : held_in c.read_more.new.self ≡ more =
    grown ∙ ap (λ w. w ++ more) (c.in_ok-make_room.ensures.held ∙ c.remove-in-loop.ensures
    ∙ drop_all c.in_ok-count.count (held_in c.loop.window) (omega (arith, all, ap length c.held.ensures))) in
    let fed = rw (c.if-ended.false, take_all c.in_ok-count.count c.held.result.now (omega (arith, all))) at feeds in (
      gs,
      h,
      held,
      rw left (tracks-on (config_for c.args.syntax) _ _ _ fs gs f h c.held.result.now more
          (g.R.Read.remaining c.loop.reader) (g.R.Read.remaining c.read_more.new.reader) (rw c.held.ensures tracks) fed consumed),
      rw left (stands-on (config_for c.args.syntax) _ (g.R.Read.remaining c.loop.reader) (g.R.Read.remaining c.read_more.new.reader)
          (state_of c.loop.self.spot) (state_of c.take_bytes.new.self.spot) fs gs f h c.held.result.now more
          (rw c.held.ensures stands) fed consumed),
    )

-- a record that a byte ended
pub returns-then-ended-clause-row : goal.returns-then-ended-clause-row
returns-then-ended-clause-row g c =
    let (fs, f, holds, tracks, stands) = c.loop.invariant in
    let e = c.in_ok-count.ensures in
    let (gs, h, held, feeds) = e.fed fs f holds in
    let (some, (line, between)) = e.end c.if-ended.true in
    let bytes = c.held.result.now in
    let count = c.in_ok-count.count in
    let parts = take-append-drop count bytes in
    let next : count - 1 + 1 ≡ count = omega (arith, some) in
    let left = c.remove.ensures ∙ ap (drop (count - 1)) (sym c.held.ensures)
    ∙ drop_more bytes (count - 1) 0 (omega (arith, some, e.within))
    ∙ ap (λ n. get_or bytes (count - 1) 0 ∷ drop n bytes) next in
    leaves-marked (config_for c.args.syntax) c.args.limits
    (prepend_known (held_in c.args.window.now) (g.R.Read.remaining c.args.reader.now))
    (prepend_known (held_in c.skip_mark.new.window) (g.R.Read.remaining c.skip_mark.new.reader)) _ true _
    c.in_ok-skip_mark.ensures.left (rw left (leaves-found c.args.syntax.quoting c.args.syntax.delimiter c.args.limits _ (g.R.Read.remaining c.loop.reader)
    (get_or bytes (count - 1) 0) (drop count bytes) gs _ _
    (tracks-fed-end (config_for c.args.syntax) st.StartRecord _ _ fs gs f h (take count bytes) (drop count bytes) _ _
    (rw (parts, c.held.ensures) tracks) (rw c.if-ended.true at feeds)) held.0 line between))

-- the end of the text
pub returns-then-more-eq0-clause-row : goal.returns-then-more-eq0-clause-row
returns-then-more-eq0-clause-row g c =
    let (fs, f, holds, tracks, stands) = c.loop.invariant in
    let e = c.in_ok-count.ensures in
    let (gs, h, held, feeds) = e.fed fs f holds in
    let (more, size, grown, consumed) = c.in-Ok.ensures.more in
    let all = e.all c.if-ended.false in
    let nothing = nil_from_length more (size ∙ c.if-more-eq0.true) in
    let left : held_in c.read_more.new.self ≡ [] =
    grown ∙ ap (λ w. w ++ more) (c.in_ok-make_room.ensures.held ∙ c.remove-in-loop.ensures
    ∙ drop_all c.in_ok-count.count (held_in c.loop.window) (omega (arith, all, ap length c.held.ensures))) ∙ nothing in
    let fed = rw (c.if-ended.false, take_all c.in_ok-count.count c.held.result.now (omega (arith, all))) at feeds in
    let at_end = c.in-Ok.ensures.end c.if-more-eq0.true in
    let p = prepend_known (held_in c.skip_mark.new.window) (g.R.Read.remaining c.skip_mark.new.reader) in
    let on = rw nothing at (tracks-on (config_for c.args.syntax) p (state_of c.loop.self.spot) (state_of c.take_bytes.new.self.spot)
    fs gs f h c.held.result.now more (g.R.Read.remaining c.loop.reader) (g.R.Read.remaining c.read_more.new.reader)
    (rw c.held.ensures tracks) fed consumed) in
    leaves-marked (config_for c.args.syntax) c.args.limits
    (prepend_known (held_in c.args.window.now) (g.R.Read.remaining c.args.reader.now)) p _ c.in_ok-finish.field-0 _
    c.in_ok-skip_mark.ensures.left (rw left (finished c.args.syntax.quoting c.args.syntax.delimiter c.args.limits p (g.R.Read.remaining c.read_more.new.reader)
    gs h (state_of c.take_bytes.new.self.spot) c.in_ok-finish.field-0 _ c.in_ok-finish.ensures.found on at_end
    (λ found. (c.in_ok-finish.ensures.holds gs h found held).0)))

-- where the machine stands then
pub returns-then-ended-clause-outside : goal.returns-then-ended-clause-outside
returns-then-ended-clause-outside g c = λ is.
    let (fs, f, holds, tracks, stands) = c.loop.invariant in
    let e = c.in_ok-count.ensures in
    let (gs, h, held, feeds) = e.fed fs f holds in
    let (some, (line, between)) = e.end c.if-ended.true in
    let bytes = c.held.result.now in
    let count = c.in_ok-count.count in
    let parts = take-append-drop count bytes in
    let next : count - 1 + 1 ≡ count = omega (arith, some) in
    let left = c.remove.ensures ∙ ap (drop (count - 1)) (sym c.held.ensures)
    ∙ drop_more bytes (count - 1) 0 (omega (arith, some, e.within))
    ∙ ap (λ n. get_or bytes (count - 1) 0 ∷ drop n bytes) next in
    let p = prepend_known (held_in c.skip_mark.new.window) (g.R.Read.remaining c.skip_mark.new.reader) in
    rw left (outside-found c.args.syntax.quoting c.args.syntax.delimiter
    (prepend_known (held_in c.args.window.now) (g.R.Read.remaining c.args.reader.now)) p (g.R.Read.remaining c.loop.reader)
    (get_or bytes (count - 1) 0) (drop count bytes) (state_of c.take_bytes.new.self.spot) c.in_ok-skip_mark.ensures.left
    (stands-fed (config_for c.args.syntax) p (g.R.Read.remaining c.loop.reader) (state_of c.loop.self.spot)
    (state_of c.take_bytes.new.self.spot) fs gs f h (take count bytes) (drop count bytes) c.in_ok-count.ended
    (rw (parts, c.held.ensures) stands) feeds) line between)

pub returns-then-more-eq0-clause-outside : goal.returns-then-more-eq0-clause-outside
returns-then-more-eq0-clause-outside g c = λ is.
    let (fs, f, holds, tracks, stands) = c.loop.invariant in
    let e = c.in_ok-count.ensures in
    let (gs, h, held, feeds) = e.fed fs f holds in
    let (more, size, grown, consumed) = c.in-Ok.ensures.more in
    let all = e.all c.if-ended.false in
    let nothing = nil_from_length more (size ∙ c.if-more-eq0.true) in
    let left : held_in c.read_more.new.self ≡ [] =
    grown ∙ ap (λ w. w ++ more) (c.in_ok-make_room.ensures.held ∙ c.remove-in-loop.ensures
    ∙ drop_all c.in_ok-count.count (held_in c.loop.window) (omega (arith, all, ap length c.held.ensures))) ∙ nothing in
    let fed = rw (c.if-ended.false, take_all c.in_ok-count.count c.held.result.now (omega (arith, all))) at feeds in
    let p = prepend_known (held_in c.skip_mark.new.window) (g.R.Read.remaining c.skip_mark.new.reader) in
    let on = rw nothing at (stands-on (config_for c.args.syntax) p (g.R.Read.remaining c.loop.reader)
    (g.R.Read.remaining c.read_more.new.reader) (state_of c.loop.self.spot) (state_of c.take_bytes.new.self.spot)
    fs gs f h c.held.result.now more (rw c.held.ensures stands) fed consumed) in
    rw left (outside-last c.args.syntax.quoting c.args.syntax.delimiter
    (prepend_known (held_in c.args.window.now) (g.R.Read.remaining c.args.reader.now)) p
    (g.R.Read.remaining c.read_more.new.reader) (state_of c.take_bytes.new.self.spot) c.in_ok-skip_mark.ensures.left on
    (c.in-Ok.ensures.end c.if-more-eq0.true) (rw c.in_ok-finish.ensures.spot at is))
