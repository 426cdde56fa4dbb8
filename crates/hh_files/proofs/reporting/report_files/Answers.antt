use Rattle.std.proofs.Common.{◌∙◌, ap}
use Rattle.hh_rows.specs.Printed.{printed_rows}
use Rattle.hh_pieces.specs.Sources.{sources_known}
use Rattle.hh_files.specs.Report.{bad_option}
use Rattle.hh_files.proofs.ReportFacts.{fault_is}
use Rattle.hh_files.proofs.SourceReportFacts.{rows_of_keys, start_refused}
use Rattle.hh_files.proofs.reporting.report_files.Goals as goal

pub returns-in-Err-clause-refused : goal.returns-in-Err-clause-refused
returns-in-Err-clause-refused g c =
    c.in-Err.ensures.refused (sources_known g.F.ReadAt.bytes c.args.records)

pub returns-in-Err-clause-bad_option : goal.returns-in-Err-clause-bad_option
returns-in-Err-clause-bad_option g c = fault_is _ _ (bad_option c.args.options.now) c.in-Err.fault c.in-Err.ensures.bad_option

pub returns-in-Ok-keys_of_sources-clause-rows : goal.returns-in-Ok-keys_of_sources-clause-rows
returns-in-Ok-keys_of_sources-clause-rows g c =
    let o = c.args.options.now in
    let r = c.args.rows.now in
    let known = sources_known g.F.ReadAt.bytes c.args.records in
    let prepared = c.in-Ok.ensures.prepared in
    let found = c.in-Ok-keys_of_sources in (
      prepared.options,
      rows_of_keys r o known.names_columns known.reading c.in-Ok.prepared.p c.in-Ok.prepared.q found.total found.keys.items
          c.in_ok-printed_text-in-Ok-keys_of_sources.field-0.items prepared.threshold
          (c.in_ok-printed_text-in-Ok-keys_of_sources.ensures ∙ ap (printed_rows found.total r) c.deref.ensures.value) found.ensures.keys,
    )

pub returns-clause-refused : goal.returns-clause-refused
returns-clause-refused g c =
    let known = sources_known g.F.ReadAt.bytes c.args.records in
    start_refused c.args.options.now known c.in-Err-keys_of_sources.fault c.in-Ok.ensures.prepared.options
    c.in-Err-keys_of_sources.ensures.refused
