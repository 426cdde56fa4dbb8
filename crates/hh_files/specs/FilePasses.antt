-- Files that are read by workers.
use Rattle.std.specs.Prelude.{◌≡◌, ℕ, Bool, true, false, List, Option, Some, None, Ok, IfSome}
use Rattle.hh_stream.specs.Ranges.{in_range}
use Rattle.hh_stream.specs.Weights.{Bytes, Entry}
use Rattle.hh_summaries.specs.Counters.{SummaryView}
use Rattle.hh_summaries.specs.Report.{weights_at}
use Rattle.hh_tally.specs.Tallies.{AreBounds, TallyView}
use Rattle.hh_tally.specs.declared.room.Room.{Room}
use Rattle.hh_workers.specs.Workers.{max_workers}
use Rattle.hh_records.specs.Streams.{Known, ReadsAs}
use Rattle.hh_rows.specs.Thresholds.{threshold_of}
use Rattle.hh_rows.specs.declared.threshold.Share.{Share}
use Rattle.hh_commands.specs.Condense.{PartRefused}
use Rattle.hh_commands.specs.Confirm.{CompareRefused}
use Rattle.hh_commands.specs.Files.{RefusedFrom}
use Rattle.hh_faults.specs.declared.error.ToolError.{ToolError}
use Rattle.hh_faults.specs.declared.error.ToolError.TheVariants as tool

-- the records read as items, whose weights the tally with this room bounds
abbrev pub TalliesRecords : Room → Known → TallyView → Type 0
TalliesRecords room known t = (xs : List Entry) × ReadsAs known (Ok xs) × (t.room ≡ room) × AreBounds t xs

-- this holds where the bytes of the records are known
abbrev pub IfKnown : Known → Type 0 → Type 0
IfKnown known p = IfSome known.reading (λ _. p)

-- where the records' bytes are known, these are the weights of the keys ks in them
abbrev pub WeighsRecords : Known → List Bytes → List ℕ → Type 0
WeighsRecords known ks ws = IfKnown known ((xs : List Entry) → ReadsAs known (Ok xs) → ws ≡ weights_at ks xs)

-- what a refusal tells where a number of workers is tested before what follows
abbrev pub BehindWorkers : Bool → (ToolError → Type 0) → ToolError → Type 0
BehindWorkers true Follows e = Follows e
BehindWorkers false Follows e = e ≡ tool.BadWorkers

-- what a refusal tells where a share may be no threshold: that first, then of the workers, and then of
-- the records
abbrev pub CountFilesRefused : Bool → Option (ℕ × ℕ) → ℕ → SummaryView → Known → ToolError → Type 0
CountFilesRefused refuses None workers s known e = e ≡ tool.BadThreshold
CountFilesRefused refuses (Some t) workers s known e =
    BehindWorkers (in_range workers max_workers) (CompareRefused refuses s known) e

-- what a refusal to confirm by files tells: of the saved file, of its kind, of the share, of the workers,
-- of the records, of the totals, and of a key outside its bounds, where that refuses
abbrev pub ConfirmFilesRefused : Bool → Share → ℕ → List ℕ → Known → ToolError → Type 0
ConfirmFilesRefused refuses share workers file known e =
    RefusedFrom file (λ s. CountFilesRefused refuses (threshold_of s.k share) workers s known) e

-- what a refusal to condense files tells: of the saved file, of its kind, of the workers, of the records, and
-- of a key above its bound
abbrev pub CondenseFilesRefused : Bool → ℕ → List ℕ → Known → ToolError → Type 0
CondenseFilesRefused refuses workers file known e =
    RefusedFrom file (λ s. BehindWorkers (in_range workers max_workers) (PartRefused refuses s known)) e
