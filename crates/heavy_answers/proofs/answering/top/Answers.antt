use Rattle.std.proofs.Common.{inr}
use Rattle.std.proofs.lemmas.Result.{err_from_is_err_and}
use Rattle.hh_records.specs.Layouts.{texts_known}
use Rattle.heavy_answers.proofs.AnswerLemmas.{of_records}
use Rattle.heavy_answers.proofs.InputLemmas.{records_are_of}
use Rattle.heavy_answers.proofs.answering.top.Goals as goal

pub returns-in_err-bytes-clause-refused : goal.returns-in_err-bytes-clause-refused
returns-in_err-bytes-clause-refused g c =
    let p = err_from_is_err_and c.from_residual-in_err-bytes.result c.from_residual-in_err-bytes.ensures.1 in
    let opened = c.in_ok-opened.opened in
    let files = c.in_ok-files.files in
    rw (p.1, p.2) (inr (inr (inr (of_records _ _ _ files.layout (texts_known g.H.File.ReadAt.bytes files.layout files.files.items)
    (records_are_of (g.H.Host.opens c.args.host.now) c.args.asked.now.records opened.layout files.layout g.H.Host.text g.H.File.ReadAt.bytes
    opened.inputs.items files.files.items c.in_ok-files.ensures.layout c.in_ok-opened.ensures.layout c.in_ok-opened.ensures.opened
    c.in_ok-files.ensures.texts)
    (rw (c.records.ensures.layout, c.records.ensures.sources, c.memory_bytes.ensures) at c.in_err-bytes.ensures.refused)))))

pub returns-clause-made : goal.returns-clause-made
returns-clause-made g c =
    let opened = c.in_ok-opened.opened in
    let files = c.in_ok-files.files in
    of_records _ _ _ files.layout (texts_known g.H.File.ReadAt.bytes files.layout files.files.items)
    (records_are_of (g.H.Host.opens c.args.host.now) c.args.asked.now.records opened.layout files.layout g.H.Host.text g.H.File.ReadAt.bytes
    opened.inputs.items files.files.items c.in_ok-files.ensures.layout c.in_ok-opened.ensures.layout c.in_ok-opened.ensures.opened
    c.in_ok-files.ensures.texts)
    (rw (c.records.ensures.layout, c.records.ensures.sources) at c.in_ok-bytes.ensures.rows)
