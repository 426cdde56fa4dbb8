use Rattle.hh_pieces.specs.Texts.{records_known}
use Rattle.hh_files.specs.Report.{bad_option}
use Rattle.hh_files.proofs.ReportFacts.{fault_is}
use Rattle.hh_files.proofs.by_plan.reported.Goals as goal

pub returns-in-Err-clause-refused : goal.returns-in-Err-clause-refused
returns-in-Err-clause-refused g c = c.in-Err.ensures.refused (records_known g.R.Read.remaining c.args.records)

pub returns-in-Err-clause-bad_option : goal.returns-in-Err-clause-bad_option
returns-in-Err-clause-bad_option g c = fault_is _ _ (bad_option c.args.options.now) c.in-Err.fault c.in-Err.ensures.bad_option
