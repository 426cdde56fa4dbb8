-- Reports of records that are read once, by a tally.
use Rattle.std.specs.Prelude.{◌≡◌, ◌+◌, ◌<◌, ℕ, ⊤, length, Some}
use Rattle.hh_tally.specs.Tallies.{TallyView, contenders_of, unsure_of}
use Rattle.hh_tally.specs.declared.room.Room.{Room}
use Rattle.hh_records.specs.Refusals.{RecordsRefused}
use Rattle.hh_records.specs.Streams.{Known}
use Rattle.hh_rows.specs.Thresholds.{threshold_of}
use Rattle.hh_rows.specs.declared.report_options.ReportOptions.{ReportOptions}
use Rattle.hh_top.specs.Rooms.{once_room}
use Rattle.hh_files.specs.FilePasses.{TalliesRecords}
use Rattle.hh_files.specs.Report.{AreOptions, StartRefused}
use Rattle.hh_faults.specs.declared.error.ToolError.{ToolError}
use Rattle.hh_faults.specs.declared.error.ToolError.TheVariants as tool

-- by this tally a key isn't certain that can weigh more than p/q of the total; how many of these are certain, and how many not
pub record IsUncertain (p q : ℕ) (t : TallyView) (certain uncertain : ℕ) : Type 0 where
  pub some : 0 < uncertain
  pub count : uncertain ≡ length (unsure_of t (contenders_of p q t))
  pub all : certain + uncertain ≡ length (contenders_of p q t)

-- what a refusal by a tally tells
abbrev pub TallyRefused : ℕ → ℕ → TallyView → ToolError → Type 0
TallyRefused p q t (tool.ReportUncertain certain uncertain) = IsUncertain p q t certain uncertain
TallyRefused p q t tool.Memory = ⊤
TallyRefused p q t _ = ⊥

-- what a refusal of the keys above p/q of the records' total tells: that a tally of the records with this room leaves some
-- open, or why the records are refused
abbrev pub KeysRefused : Room → ℕ → ℕ → Known → ToolError → Type 0
KeysRefused room p q known (tool.ReportUncertain certain uncertain) =
    (t : TallyView) × TalliesRecords room known t × IsUncertain p q t certain uncertain
KeysRefused room p q known e = RecordsRefused known e

-- what a refusal tells: by the threshold of the options that keys are left open, or what that of any report tells
abbrev pub OnceRefused : ReportOptions → ℕ → Known → ToolError → Type 0
OnceRefused o memory known (tool.ReportUncertain certain uncertain) =
    AreOptions o × (p : ℕ) × (q : ℕ) × (threshold_of o.k o.threshold ≡ Some (p, q))
    × KeysRefused (once_room o.k memory) p q known (tool.ReportUncertain certain uncertain)
OnceRefused o memory known e = StartRefused o known e
