use Rattle.std.proofs.Common.{◌+◌, ◌<◌, ◌^◌, Bool, List, sym, ap, ◌∙◌, subst, arith, fold}
use Rattle.std.specs.Prelude.{◌==◌}
use Rattle.std.specs.Map.{keys_of}
use Rattle.hh_tally.specs.Tallies.{AreFlags, TallyView, add_in}
use Rattle.hh_tally.proofs.Keeping.{lost_fits, tally_merged, with_merged}
use Rattle.hh_tally.proofs.tally.Tally.merge.Goals as goal

pub overflow_add-result-2 : goal.overflow_add-result-2
overflow_add-result-2 c =
    let room = λ (t : TallyView). t.room in
    let total = λ (t : TallyView). t.total in
    let same = ap room c.other.view_is ∙ sym c.requires.room ∙ sym (ap room c.self.view_is) in
    let fits : c.self.inside.total + c.other.inside.total < 2 ^ 63 =
    omega (arith, c.requires.fits, ap total c.self.view_is, ap total c.other.view_is) in
    let merged = tally_merged c.in_ok-more.more c.in_ok-more.bytes c.self.invariant.0 c.other.invariant.0 same fits
    c.in_ok-add_all.ensures.all c.in_ok-more.ensures.lost c.in_ok-more.ensures.left c.in_ok-more.ensures.bytes
    c.in_ok-more.ensures.bounded in
    omega (arith, lost_fits merged)

pub invariant_of-result : goal.invariant_of-result
invariant_of-result c =
    let room = λ (t : TallyView). t.room in
    let total = λ (t : TallyView). t.total in
    let same = ap room c.other.view_is ∙ sym c.requires.room ∙ sym (ap room c.self.view_is) in
    let fits : c.self.inside.total + c.other.inside.total < 2 ^ 63 =
    omega (arith, c.requires.fits, ap total c.self.view_is, ap total c.other.view_is) in (
      tally_merged c.in_ok-more.more c.in_ok-more.bytes c.self.invariant.0 c.other.invariant.0 same fits
          c.in_ok-add_all.ensures.all c.in_ok-more.ensures.lost c.in_ok-more.ensures.left c.in_ok-more.ensures.bytes
          c.in_ok-more.ensures.bounded,
      c.in_ok-more.ensures.few_flags (omega (arith, c.in_ok-sure.ensures.count)),
    )

pub returns : goal.returns
returns c =
    let t = c.self.inside in
    let theirs = c.other.view_is in
    let all = c.in_ok-add_all.ensures.all
    ∙ ap (λ (v : TallyView). fold add_in t.index.entries v.counters) theirs in
    with_merged t.room t.total c.other.inside.total t.lost c.other.inside.lost c.in_ok-more.more t.sure.items
    c.in_ok-sure.sure.items c.lower_if_over.new.sure.items t.index.entries c.add_all.new.index.entries
    c.lower_if_over.new.index.entries c.args.self c.args.other.now (sym c.self.view_is)
    (ap (λ (v : TallyView). v.total) theirs) (ap (λ (v : TallyView). v.lost) theirs) all
    c.in_ok-more.ensures.lost c.in_ok-more.ensures.left c.self.invariant.0.distinct c.self.invariant.1
    (λ test are. c.in_ok-sure.ensures.flags test
    (subst (λ (bs : List Bool). AreFlags bs (t.lost == 0) (keys_of c.add_all.new.index.entries) test) (sym c.deref.ensures.value) are))
    c.in_ok-more.ensures.flags
