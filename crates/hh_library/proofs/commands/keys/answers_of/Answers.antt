use Rattle.std.proofs.Common.{◌∙◌, ap, sym, subst}
use Rattle.std.specs.Prelude.{vec_items}
use Rattle.hh_commands.proofs.KeyFacts.{IsKeyLength, word_passes}
use Rattle.hh_library.proofs.commands.keys.answers_of.Goals as goal

pub of_bytes-requires : goal.of_bytes-requires
of_bytes-requires c =
    let word = c.deref.ensures.value ∙ ap vec_items c.word-item.is in
    subst IsKeyLength (sym word)
    (word_passes vec_items c.args.words.now _ c.word-item.result c.loop-word-test.true c.requires)
