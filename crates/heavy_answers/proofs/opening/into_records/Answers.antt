use Rattle.std.proofs.Common.{◌∙◌, ◌∷◌, length, sym, subst, ap, arith}
use Rattle.std.specs.Vec.Iter.{into_iter_items}
use Rattle.hh_records.specs.Layouts.{every}
use Rattle.heavy_answers.specs.Inputs.{Agree}
use Rattle.heavy_answers.proofs.InputLemmas.{alike_agree, alike_some, first_and_rest, known_same, made_all, made_more, made_start, nothing_left}
use Rattle.heavy_answers.proofs.opening.into_records.Goals as goal

pub loop-input-init : goal.loop-input-init
loop-input-init g c =
    let gives = c.into_iter-input-iterator.ensures.into_iter_gives in (
      tt,
      tt,
      gives.1 ∙ c.args.opened.inputs.ok.0 ∙ ap length (sym gives.0),
      made_start g.H.Host.text g.H.Reader.Read.remaining c.args.opened.inputs.items _ _ gives.0 c.new-readers.ensures.items,
    )

pub loop-input-preserved : goal.loop-input-preserved
loop-input-preserved g c =
    let inv = c.loop-input.invariant in
    let steps = c.in-Some.ensures.steps in
    let long = ap length steps.0 in (
      tt,
      tt,
      let was = inv.2 in let gone = steps.1 in omega (arith, was, gone, long),
      made_more g.H.Host.text g.H.Reader.Read.remaining c.args.opened.inputs.items c.in-Some.input (into_iter_items c.next.new.self) _ _ _
          c.reader.result steps.0 c.in_ok-push_to.ensures.pushed (known_same _ _ c.reader.ensures.text) inv.3,
    )

pub remove-first-requires : goal.remove-first-requires
remove-first-requires g c =
    let inv = c.loop-input.invariant in
    let alike = made_all g.H.Host.text g.H.Reader.Read.remaining c.args.opened.inputs.items _ c.loop-input.readers.items
    (sym (nothing_left _ (sym c.in-None.ensures.steps.0 ∙ inv.2))) inv.3 in
    let some = alike_some g.H.Host.text g.H.Reader.Read.remaining c.args.opened.inputs.items c.loop-input.readers.items alike c.requires.some in
    let held = c.loop-input.readers.ok.0 in
    omega (arith, some, held)

pub returns-clause-texts : goal.returns-clause-texts
returns-clause-texts g c =
    let inv = c.loop-input.invariant in
    let inputs = c.args.opened.inputs.items in
    let readers = c.loop-input.readers.items in
    let alike = made_all g.H.Host.text g.H.Reader.Read.remaining inputs _ readers
    (sym (nothing_left _ (sym c.in-None.ensures.steps.0 ∙ inv.2))) inv.3 in
    let some = alike_some g.H.Host.text g.H.Reader.Read.remaining inputs readers alike c.requires.some in
    let all = ap (λ rest. c.remove-first.result ∷ rest) c.remove-first.ensures.by_index.2 ∙ first_and_rest readers c.remove-first.result some c.remove-first.ensures.value in
    subst (λ ys. Agree (every g.H.Host.text inputs) (every g.H.Reader.Read.remaining ys)) (sym all)
    (alike_agree g.H.Host.text g.H.Reader.Read.remaining inputs readers alike)
