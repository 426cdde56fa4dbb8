use Rattle.std.proofs.Common.{◌≡◌, ◌∙◌, map, refl, sym}
use Rattle.std.specs.Prelude.{vec_items}
use Rattle.std.proofs.lemmas.Simd.{map-map}
use Rattle.hh_commands.specs.Ask.{answer_of}
use Rattle.hh_library.proofs.accumulator.Accumulator.ask.Goals as goal

pub returns-clause-bounds : goal.returns-clause-bounds
returns-clause-bounds c =
    let saved = c.whole.result.now in
    let same : saved ≡ c.args.self.now = c.whole.ensures ∙ c.in_ok-make_whole.ensures.same ∙ c.self.view_is in
    let pairs : c.in_ok-answers_of.field-0.items ≡ map (answer_of saved) (map vec_items c.args.keys.now) =
    c.in_ok-answers_of.ensures ∙ sym (map-map (answer_of saved) vec_items c.args.keys.now) in
    rw (c.in_ok-check_keys.ensures.passes, pairs, same) refl
