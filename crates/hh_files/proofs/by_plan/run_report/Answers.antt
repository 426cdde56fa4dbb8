use Rattle.std.proofs.Common.{IfErr, ap, subst}
use Rattle.std.specs.Prelude.{OnOk}
use Rattle.hh_pieces.specs.Texts.{records_known}
use Rattle.hh_rows.specs.Rows.{rows_of}
use Rattle.hh_files.specs.Report.{IsReported, ReportRefused}
use Rattle.hh_files.proofs.ReportFacts.{rows_not_written, rows_written}
use Rattle.hh_files.proofs.by_plan.run_report.Goals as goal

pub returns-clause-reported : goal.returns-clause-reported
returns-clause-reported g c =
    let old = g.S.Sink.taken c.args.sink.now in
    let new = g.S.Sink.taken c.write_report.new.sink in
    let (xs, are, keys, total) = c.in_ok-keys.ensures.keys in
    subst (λ known. OnOk c.write_report.result (IsReported c.args.options.now known old new)) c.of_reader-records.ensures.known
    (rows_written c.args.options.now are (records_known g.R.Read.remaining c.of_reader-records.result)
    (rows_of c.deref.result.now) (xs, c.in_ok-keys.keys.items, keys, ap rows_of c.deref.ensures.value) old new
    c.write_report.result c.write_report.ensures.all)

pub returns-clause-refused : goal.returns-clause-refused
returns-clause-refused g c =
    let old = g.S.Sink.taken c.args.sink.now in
    let new = g.S.Sink.taken c.write_report.new.sink in
    let (xs, are, keys, total) = c.in_ok-keys.ensures.keys in
    subst (λ known. IfErr c.write_report.result (ReportRefused c.args.options.now known old new)) c.of_reader-records.ensures.known
    (rows_not_written c.args.options.now are (records_known g.R.Read.remaining c.of_reader-records.result)
    (rows_of c.deref.result.now) (xs, c.in_ok-keys.keys.items, keys, ap rows_of c.deref.ensures.value) old new
    c.write_report.result c.write_report.ensures.refused)
