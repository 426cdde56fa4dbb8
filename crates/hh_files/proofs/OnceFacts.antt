-- Reports of records that are read once.
use Rattle.std.proofs.Common.{ℕ}
use Rattle.hh_tally.specs.Tallies.{TallyView}
use Rattle.hh_tally.specs.declared.room.Room.{Room}
use Rattle.hh_records.specs.Streams.{Known}
use Rattle.hh_rows.specs.declared.report_options.ReportOptions.{ReportOptions}
use Rattle.hh_files.specs.Report.{StartRefused}
use Rattle.hh_files.specs.FilePasses.{TalliesRecords}
use Rattle.hh_files.specs.OnceReports.{KeysRefused, OnceRefused, TallyRefused}
use Rattle.hh_faults.specs.declared.error.ToolError.{ToolError}
use Rattle.hh_faults.specs.declared.error.ToolError.TheVariants as tool

-- a tally of records that leaves keys open refuses them
pub tally_refuses_keys : (room : Room) (p q : ℕ) (known : Known) (t : TallyView) (e : ToolError) → TalliesRecords room known t
    → TallyRefused p q t e → KeysRefused room p q known e
tally_refuses_keys room p q known t (tool.ReportUncertain certain uncertain) tallies h = (t, tallies, h)
tally_refuses_keys room p q known t tool.Memory tallies h = tt
tally_refuses_keys room p q known t e tallies h = absurd h

-- a refusal of the options refuses the report
pub options_refuse_report : (o : ReportOptions) (memory : ℕ) (known : Known) (e : ToolError) → StartRefused o known e
    → OnceRefused o memory known e
options_refuse_report o memory known (tool.ReportUncertain certain uncertain) h = absurd h.0
options_refuse_report o memory known e h = h
