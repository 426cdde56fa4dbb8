use Rattle.std.proofs.Common.{◌+◌, ◌∙◌, ap}
use Rattle.std.proofs.lemmas.Result.{err_from_is_err_and}
use Rattle.std.specs.Prelude.{vec_items}
use Rattle.hh_commands.proofs.FileFacts.{merge_goes_on, merge_unread, merge_stops, merge_ends}
use Rattle.hh_commands.proofs.commands.merge.merge_files.Goals as goal

pub loop-i-preserved : goal.loop-i-preserved
loop-i-preserved c =
    let is = c.deref-in-loop-i.ensures.value ∙ ap vec_items c.index-files-i.is in
    merge_goes_on vec_items c.args.files.now c.loop-i.i c.index-files-i.result _ is c.loop-i-test.true
    c.loop-i.merged _ c.loop-i.invariant c.in_ok-next.ensures.value c.in_ok-merge_saved.ensures.merged

pub returns-in_err-next-clause-refused : goal.returns-in_err-next-clause-refused
returns-in_err-next-clause-refused c =
    let p = err_from_is_err_and c.from_residual-in_err-next.result c.from_residual-in_err-next.ensures.1 in
    let is = c.deref-in-loop-i.ensures.value ∙ ap vec_items c.index-files-i.is in
    rw (p.1, p.2) (merge_unread vec_items c.args.files.now c.loop-i.i c.index-files-i.result _ is c.loop-i-test.true
    c.loop-i.merged _ c.loop-i.invariant c.in_err-next.field-0.0 c.in_err-next.ensures.refused)

pub returns-in_err-merge_saved-clause-refused : goal.returns-in_err-merge_saved-clause-refused
returns-in_err-merge_saved-clause-refused c =
    let p =
    err_from_is_err_and c.from_residual-in_err-merge_saved.result c.from_residual-in_err-merge_saved.ensures.1 in
    let is = c.deref-in-loop-i.ensures.value ∙ ap vec_items c.index-files-i.is in
    rw (p.1, p.2) (merge_stops vec_items c.args.files.now c.loop-i.i c.index-files-i.result _ is c.loop-i-test.true
    c.loop-i.merged _ c.loop-i.invariant c.in_err-merge_saved.field-0.0 c.in_ok-next.ensures.value
    c.in_err-merge_saved.ensures.refused)

pub returns-clause-merged : goal.returns-clause-merged
returns-clause-merged c =
    merge_ends vec_items c.args.files.now c.loop-i.i (c.loop-i.i + 1) _ _ c.loop-i-test.false c.loop-i.invariant
