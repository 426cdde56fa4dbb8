use Rattle.std.proofs.Common.{◌∙◌, length, refl, sym, ap, arith}
use Rattle.std.specs.Vec.Iter.{into_iter_items}
use Rattle.hh_records.specs.Layouts.{every}
use Rattle.heavy_answers.proofs.InputLemmas.{agree_none, alike_agree, every_none, made_all, made_more, made_start, nothing_left}
use Rattle.heavy_answers.proofs.opening.sources_of.Goals as goal

pub loop-input-init : goal.loop-input-init
loop-input-init g c =
    let gives = c.into_iter-input-iterator.ensures.into_iter_gives in (
      tt,
      tt,
      gives.1 ∙ c.args.inputs.ok.0 ∙ ap length (sym gives.0),
      made_start g.H.Host.text g.H.File.ReadAt.bytes c.args.inputs.items _ _ gives.0 c.new-files.ensures.items,
    )

pub loop-input-preserved : goal.loop-input-preserved
loop-input-preserved g c =
    let inv = c.loop-input.invariant in
    let steps = c.in-Some.ensures.steps in
    let long = ap length steps.0 in (
      tt,
      tt,
      let was = inv.2 in let gone = steps.1 in omega (arith, was, gone, long),
      made_more g.H.Host.text g.H.File.ReadAt.bytes c.args.inputs.items c.in-Some.input (into_iter_items c.next.new.self) _ _ _
          c.in_ok-file.file steps.0 c.in_ok-push_to.ensures.pushed c.in_ok-file.ensures.text inv.3,
    )

pub returns-then-not-is_whole-clause-texts : goal.returns-then-not-is_whole-clause-texts
returns-then-not-is_whole-clause-texts g c =
    agree_none (every g.H.Host.text c.args.inputs.items) (every g.H.File.ReadAt.bytes c.push_to.new.others.items)
    (ap (every g.H.File.ReadAt.bytes) c.in_ok-push_to.ensures.pushed
    ∙ every_none g.H.File.ReadAt.bytes c.loop-input.files.items c.in_ok-file.file (c.if-not-is_whole.ensures.part refl))

pub returns-clause-texts : goal.returns-clause-texts
returns-clause-texts g c =
    let inv = c.loop-input.invariant in
    alike_agree g.H.Host.text g.H.File.ReadAt.bytes c.args.inputs.items c.loop-input.files.items
    (made_all g.H.Host.text g.H.File.ReadAt.bytes c.args.inputs.items _ c.loop-input.files.items
    (sym (nothing_left _ (sym c.in-None.ensures.steps.0 ∙ inv.2))) inv.3)
