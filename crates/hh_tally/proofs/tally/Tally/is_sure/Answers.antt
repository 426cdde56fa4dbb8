use Rattle.std.proofs.Common.{◌∙◌, Bool, List, false, get_or, length, sym, ap}
use Rattle.std.specs.Prelude.{◌==◌}
use Rattle.hh_stream.specs.Weights.{same_key}
use Rattle.hh_tally.specs.Tallies.{TallyView, filled, is_sure, view_of}
use Rattle.hh_tally.proofs.Sure.{length-filled, sure_at, sure_new}
use Rattle.indexmap.proofs.MapLemmas.{Found-position, Missing-position}
use Rattle.hh_tally.proofs.tally.Tally.is_sure.Goals as goal

pub returns-in-Some : goal.returns-in-Some
returns-in-Some c =
    let t = c.self.inside in
    let es = t.index.entries in
    let x = c.args.key.now in
    let place = sym c.in-Some.ensures.index in
    let inside : TallyView = view_of t.room t.total t.lost t.sure.items es in
    c.flag_at.ensures (length es) (Found-position (same_key x) es c.in-Some.place place).within
    ∙ ap (λ (bs : List Bool). get_or (filled bs (t.lost == 0) (length es)) c.in-Some.place false) c.deref.ensures.value
    ∙ sym (sure_at inside x c.in-Some.place place (length-filled t.sure.items (t.lost == 0) (length es) c.self.invariant.1))
    ∙ ap (λ (v : TallyView). is_sure v x) c.self.view_is

pub returns-in-None : goal.returns-in-None
returns-in-None c =
    let t = c.self.inside in
    let es = t.index.entries in
    let x = c.args.key.now in
    let inside : TallyView = view_of t.room t.total t.lost t.sure.items es in
    sym (sure_new inside x (Missing-position (same_key x) es (sym c.in-None.ensures.index)).value)
    ∙ ap (λ (v : TallyView). is_sure v x) c.self.view_is
