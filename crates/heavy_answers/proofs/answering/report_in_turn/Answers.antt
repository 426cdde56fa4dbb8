use Rattle.std.proofs.Common.{Bool, inl, inr, subst, sym}
use Rattle.std.proofs.lemmas.Result.{err_from_is_err_and}
use Rattle.hh_pieces.specs.Texts.{records_known}
use Rattle.heavy_answers.specs.Refusals.{ReportRefused}
use Rattle.heavy_answers.proofs.AnswerLemmas.{if_err_more, if_ok_more, of_records}
use Rattle.heavy_answers.proofs.answering.report_in_turn.Goals as goal

pub returns-then-asked-clause-made : goal.returns-then-asked-clause-made
returns-then-asked-clause-made g c =
    let records = c.in_ok-records.records in
    if_ok_more c.report_once.result (λ bytes made. of_records _ _ _ records.layout (records_known g.H.Reader.Read.remaining records)
    c.in_ok-records.ensures.records made) c.report_once.ensures.rows

pub returns-then-asked-clause-refused : goal.returns-then-asked-clause-refused
returns-then-asked-clause-refused g c =
    let records = c.in_ok-records.records in
    let known = records_known g.H.Reader.Read.remaining records in
    if_err_more c.report_once.result (λ fault fails. inr (of_records _ _ _ records.layout known c.in_ok-records.ensures.records
    (subst (λ (once : Bool). ReportRefused once c.args.asked.now known fault) (sym c.if-asked.true) fails)))
    (rw c.memory_bytes.ensures at c.report_once.ensures.refused)

pub returns-else-asked-clause-made : goal.returns-else-asked-clause-made
returns-else-asked-clause-made g c =
    let records = c.in_ok-records.records in
    if_ok_more c.report_rows.result (λ bytes made. of_records _ _ _ records.layout (records_known g.H.Reader.Read.remaining records)
    c.in_ok-records.ensures.records made) c.report_rows.ensures.rows

pub returns-else-asked-clause-refused : goal.returns-else-asked-clause-refused
returns-else-asked-clause-refused g c =
    let records = c.in_ok-records.records in
    let known = records_known g.H.Reader.Read.remaining records in
    if_err_more c.report_rows.result (λ fault fails. inr (of_records _ _ _ records.layout known c.in_ok-records.ensures.records
    (subst (λ (once : Bool). ReportRefused once c.args.asked.now known fault) (sym c.if-asked.false) fails)))
    c.report_rows.ensures.refused

pub returns-in_err-records-clause-refused : goal.returns-in_err-records-clause-refused
returns-in_err-records-clause-refused g c =
    let p = err_from_is_err_and c.from_residual.result c.from_residual.ensures.1 in
    rw (p.1, p.2) (inl c.in_err-records.ensures.refused)
