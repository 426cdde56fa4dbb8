use Rattle.std.proofs.Common.{◌≡◌, ◌||◌, Bool, true, inl, inr, subst, sym}
use Rattle.std.proofs.lemmas.Result.{err_from_is_err_and}
use Rattle.hh_records.specs.Layouts.{texts_known}
use Rattle.heavy_answers.specs.Refusals.{ReportRefused}
use Rattle.heavy_answers.proofs.AnswerLemmas.{begin_refused, either_holds, if_err_more, if_ok_more, neither_holds, of_records, of_records_more, read_again, read_once}
use Rattle.heavy_answers.proofs.InputLemmas.{records_are_of}
use Rattle.heavy_answers.proofs.answering.report.Goals as goal
use Rattle.heavy_answers.proofs.answering.report.Goals.{then-asked-via-then-asked, then-asked-via-else-asked+then-asked-2}

pub returns-then-asked-clause-made : goal.returns-then-asked-clause-made
returns-then-asked-clause-made g c =
    let asked = c.args.asked.now in
    let reads : (asked.once || asked.by_plan) ≡ true =
    elim c.then-asked.branch [
      | then-asked-via-then-asked w ↦ either_holds asked.once asked.by_plan (inl w.if-asked.true)
      | then-asked-via-else-asked+then-asked-2 w ↦ either_holds asked.once asked.by_plan (inr (w.if-asked.false, w.if-asked-2.true))
    ] in
    if_ok_more c.report_in_turn.result
    (λ bytes. of_records_more (g.H.Host.opens c.args.host.now) asked.records (λ known made. (made.0, read_once _ reads made.1)))
    c.report_in_turn.ensures.made

pub returns-then-asked-clause-refused : goal.returns-then-asked-clause-refused
returns-then-asked-clause-refused g c =
    if_err_more c.report_in_turn.result (λ fault. begin_refused) c.report_in_turn.ensures.refused

pub returns-in_err-bytes-clause-refused : goal.returns-in_err-bytes-clause-refused
returns-in_err-bytes-clause-refused g c =
    let p = err_from_is_err_and c.from_residual-in_err-bytes.result c.from_residual-in_err-bytes.ensures.1 in
    let opened = c.in_ok-opened.opened in
    let files = c.in_ok-files.files in
    rw (p.1, p.2) (inr (of_records _ _ _ files.layout (texts_known g.H.File.ReadAt.bytes files.layout files.files.items)
    (records_are_of (g.H.Host.opens c.args.host.now) c.args.asked.now.records opened.layout files.layout g.H.Host.text g.H.File.ReadAt.bytes
    opened.inputs.items files.files.items c.in_ok-files.ensures.layout c.in_ok-opened.ensures.layout c.in_ok-opened.ensures.opened
    c.in_ok-files.ensures.texts)
    (subst (λ (once : Bool). ReportRefused once c.args.asked.now (texts_known g.H.File.ReadAt.bytes files.layout files.files.items)
    c.in_err-bytes.field-0.0) (sym c.if-asked.false)
    (rw (c.records.ensures.layout, c.records.ensures.sources) at c.in_err-bytes.ensures.refused))))

pub returns-clause-made : goal.returns-clause-made
returns-clause-made g c =
    let opened = c.in_ok-opened.opened in
    let files = c.in_ok-files.files in
    let made = rw (c.records.ensures.layout, c.records.ensures.sources) at c.in_ok-bytes.ensures.rows in
    of_records _ _ _ files.layout (texts_known g.H.File.ReadAt.bytes files.layout files.files.items)
    (records_are_of (g.H.Host.opens c.args.host.now) c.args.asked.now.records opened.layout files.layout g.H.Host.text g.H.File.ReadAt.bytes
    opened.inputs.items files.files.items c.in_ok-files.ensures.layout c.in_ok-opened.ensures.layout c.in_ok-opened.ensures.opened
    c.in_ok-files.ensures.texts)
    (made.0, read_again _ (neither_holds c.args.asked.now.once c.args.asked.now.by_plan c.if-asked.false c.if-asked-2.false) made.1)

pub returns-in_err-opened-clause-refused : goal.returns-in_err-opened-clause-refused
returns-in_err-opened-clause-refused g c =
    let p = err_from_is_err_and c.from_residual.result c.from_residual.ensures.1 in
    rw (p.1, p.2) (inl (inl c.in_err-opened.ensures.refused))

pub returns-in_err-check_options-clause-refused : goal.returns-in_err-check_options-clause-refused
returns-in_err-check_options-clause-refused g c =
    let p = err_from_is_err_and c.from_residual-in_err-check_options.result c.from_residual-in_err-check_options.ensures.1 in
    rw (p.1, p.2) (inl (inr (inl c.in_err-check_options.ensures.tests)))

pub returns-in_err-files-clause-refused : goal.returns-in_err-files-clause-refused
returns-in_err-files-clause-refused g c =
    let p = err_from_is_err_and c.from_residual-in_err-files.result c.from_residual-in_err-files.ensures.1 in
    rw (p.1, p.2) (inl (inr (inr (c.in_ok-check_options.ensures.tests, c.in_err-files.ensures.refused))))
