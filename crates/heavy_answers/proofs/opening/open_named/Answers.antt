use Rattle.std.proofs.Common.{◌≡◌, ◌∙◌, ◌+◌, ◌||◌, false, map, take, slice_index_or, sym, ap, subst}
use Rattle.heavy_host.specs.Opening.{names_standard}
use Rattle.heavy_answers.specs.Inputs.{AreInputs}
use Rattle.heavy_answers.proofs.InputLemmas.{inputs_next, takes, takes_next}
use Rattle.heavy_answers.proofs.opening.open_named.Goals as goal

pub loop-place-preserved : goal.loop-place-preserved
loop-place-preserved g c =
    let names = c.args.names.now in
    let place = c.loop-place.place in
    let next = c.index-names-place.result in
    let opens = g.H.Host.opens c.args.host.now in
    let name : c.deref.result.now ≡ (slice_index_or names place next).items = c.deref.ensures.value ∙ ap (λ v. v.items) c.index-names-place.is in
    let inv = c.loop-place.invariant in (
      subst (λ inputs. AreInputs opens false (map (λ w. w.items) (take (place + 1) names)) (map g.H.Host.text inputs))
          (sym c.in_ok-push_to.ensures.pushed)
          (inputs_next (λ w. w.items) g.H.Host.text opens names place next c.loop-place.inputs.items c.in_ok-open.field-0 c.loop-place-test.true inv.0
          (rw (inv.1, name) at c.in_ok-open.ensures.opened)),
      c.is_taken_by-is_taken.ensures.taken ∙ ap (λ taken. taken || names_standard c.deref-in-loop-place.result.now) inv.1
          ∙ ap (λ word. takes false (map (λ w. w.items) (take place names)) || names_standard word)
          (c.deref-in-loop-place.ensures.value ∙ ap (λ v. v.items) c.index-names-place.is)
          ∙ sym (takes_next (λ w. w.items) names place next c.loop-place-test.true),
    )
