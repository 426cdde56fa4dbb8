use Rattle.hh_files.specs.Report.{bad_option}
use Rattle.hh_files.proofs.ReportFacts.{fault_is}
use Rattle.hh_files.proofs.OnceFacts.{options_refuse_report}
use Rattle.hh_files.proofs.once.reported_once.Goals as goal

pub returns-in-Err-clause-refused : goal.returns-in-Err-clause-refused
returns-in-Err-clause-refused g c =
    let known = g.R.ReadRecords.known c.args.records in
    options_refuse_report c.args.options.now c.args.memory known c.in-Err.fault (c.in-Err.ensures.refused known)

pub returns-in-Err-clause-bad_option : goal.returns-in-Err-clause-bad_option
returns-in-Err-clause-bad_option g c = fault_is _ _ (bad_option c.args.options.now) c.in-Err.fault c.in-Err.ensures.bad_option
