use Rattle.std.proofs.Common.{ℕ}
use Rattle.std.specs.Global.{Vec}
use Rattle.hh_records.specs.Refusals.{RefusedAfter}
use Rattle.hh_records.specs.declared.layout.Layout.{Layout}
use Rattle.hh_library.specs.LaidOut.{ReportsRows, bad_report, text_laid}
use Rattle.heavy_ffi.specs.Items.{keys_of}
use Rattle.heavy_ffi.proofs.LayoutFacts.{laid, laid_early, laid_refused}
use Rattle.heavy_ffi.proofs.report.report_of.Goals as goal

pub returns-clause-rows : goal.returns-clause-rows
returns-clause-rows c =
    let t = c.args.laid in
    laid t.layout.now (keys_of t.columns.now t.ends.now) c.in_ok-layout.layout c.in_ok-layout.ensures.layout
    (λ (l : Layout) (rows : Vec ℕ). ReportsRows c.args.k c.args.share l.decimals (text_laid l t.text.now) rows.items)
    c.report_bytes.result c.report_bytes.ensures.rows

pub returns-clause-refused : goal.returns-clause-refused
returns-clause-refused c =
    let t = c.args.laid in
    laid_refused t.layout.now (keys_of t.columns.now t.ends.now) c.in_ok-layout.layout c.in_ok-layout.ensures.layout
    (λ l. RefusedAfter (bad_report c.args.k c.args.share) (text_laid l t.text.now))
    c.report_bytes.result c.report_bytes.ensures.refused

pub returns-clause-early : goal.returns-clause-early
returns-clause-early c =
    let t = c.args.laid in
    laid_early t.layout.now (keys_of t.columns.now t.ends.now) c.in_ok-layout.layout c.in_ok-layout.ensures.layout
    (bad_report c.args.k c.args.share) c.report_bytes.result c.report_bytes.ensures.bad_report
