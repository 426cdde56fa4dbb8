use Rattle.std.proofs.Common.{◌∷◌, []}
use Rattle.std.specs.Prelude.{get_or, map, take}
use Rattle.std.proofs.lemmas.List.{map-append, take_more}
use Rattle.std.proofs.lemmas.Result.{err_from_is_err_and}
use Rattle.hh_records.proofs.WordFacts.{key-refused, names-push}
use Rattle.hh_records.proofs.layout_words.key_of.Goals as goal

pub loop-word-preserved : goal.loop-word-preserved
loop-word-preserved c =
    let i = c.loop-word.word-index in
    let words = c.args.words.now in
    let named = rw (c.deref.ensures.value, c.word-item.is) at c.in_ok-column.ensures.named in
    rw (
      take_more words i c.word-item.result c.loop-word-test.true,
      map-append _ (take i words) (get_or words i c.word-item.result ∷ []),
      c.in-Ok.ensures.items,
    )
    (names-push (c.args.is_json, c.args.has_header) (map (λ word. word.items) (take i words)) c.loop-word.key.items
    _ c.in_ok-column.column c.loop-word.invariant named)

pub returns-in_err-column-clause-unnamed : goal.returns-in_err-column-clause-unnamed
returns-in_err-column-clause-unnamed c =
    let p = err_from_is_err_and c.from_residual.result c.from_residual.ensures.1 in
    rw (p.1, p.2)
    (key-refused (c.args.is_json, c.args.has_header) c.args.words.now c.loop-word.word-index c.word-item.result
    c.in_err-column.field-0.0 c.loop-word-test.true
    (rw (c.deref.ensures.value, c.word-item.is) at c.in_err-column.ensures.unnamed))
