use Rattle.std.proofs.Common.{◌+◌, ◌∙◌, ap}
use Rattle.std.proofs.lemmas.Result.{err_from_is_err_and}
use Rattle.std.specs.Prelude.{vec_items}
use Rattle.hh_commands.proofs.KeyFacts.{keys_go_on, keys_stop, keys_end}
use Rattle.hh_library.proofs.commands.keys.check_keys.Goals as goal

pub loop-i-preserved : goal.loop-i-preserved
loop-i-preserved c =
    let is = c.deref.ensures.value ∙ ap vec_items c.index-words-i.is in
    keys_go_on vec_items c.args.words.now c.loop-i.i c.index-words-i.result _ is c.loop-i-test.true _
    c.loop-i.invariant c.in_ok-check_key.ensures

pub returns-in_err-check_key-clause-refused : goal.returns-in_err-check_key-clause-refused
returns-in_err-check_key-clause-refused c =
    let p = err_from_is_err_and c.from_residual.result c.from_residual.ensures.1 in
    let is = c.deref.ensures.value ∙ ap vec_items c.index-words-i.is in
    rw (p.1, p.2) (keys_stop vec_items c.args.words.now c.loop-i.i c.index-words-i.result _ is c.loop-i-test.true _
    c.loop-i.invariant c.in_err-check_key.ensures)

pub returns-clause-passes : goal.returns-clause-passes
returns-clause-passes c =
    keys_end vec_items c.args.words.now c.loop-i.i (c.loop-i.i + 1) _ c.loop-i-test.false c.loop-i.invariant
