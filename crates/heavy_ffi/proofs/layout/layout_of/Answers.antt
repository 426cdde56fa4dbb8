use Rattle.std.proofs.lemmas.Result.{err_from_is_err_and}
use Rattle.heavy_ffi.specs.Items.{keys_of}
use Rattle.heavy_ffi.proofs.LayoutFacts.{refused_words}
use Rattle.heavy_ffi.proofs.layout.layout_of.Goals as goal

pub returns-in_err-said-clause-refused : goal.returns-in_err-said-clause-refused
returns-in_err-said-clause-refused c =
    let p = err_from_is_err_and c.from_residual-in_err-said.result c.from_residual-in_err-said.ensures.1 in
    rw (p.1, p.2) (refused_words c.args.layout.now (keys_of c.args.columns.now c.args.ends.now) c.in_ok-words.words
    c.in_ok-words.ensures c.in_err-said.field-0.0 c.in_err-said.ensures.refused)
