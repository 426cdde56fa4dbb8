-- What a report has and leaves in a sink, and what its refusals tell.
use Rattle.std.specs.Prelude.{◌≡◌, ◌-◌, not, ℕ, List, Option, Some, None, is_none, Ok, ⊤, if◌then◌else◌}
use Rattle.std.specs.Io.KnownBytes.{Appends, Keeps}
use Rattle.hh_stream.specs.Cuttings.{max_pieces}
use Rattle.hh_stream.specs.Weights.{Entry, total_of}
use Rattle.hh_summaries.specs.Report.{IsShare, heavy}
use Rattle.hh_summaries.specs.Counters.{max_k}
use Rattle.hh_countmin.specs.Family.{drawn_family, max_depth, max_width}
use Rattle.hh_workers.specs.PlanTexts.{PlanRefused, SpellsTree}
use Rattle.hh_pool.specs.Settings.{Settings}
use Rattle.hh_workers.specs.Workers.{max_workers}
use Rattle.hh_workers.specs.Trees.{IsBalanced, IsMergeTree, MergeTree, chain_of}
use Rattle.hh_stream.specs.Ranges.{in_range}
use Rattle.hh_rows.specs.Printed.{printed_rows}
use Rattle.hh_rows.specs.Rows.{rows_of}
use Rattle.hh_rows.specs.Sinks.{TakesFirst}
use Rattle.hh_records.specs.Streams.{Known, ReadsAs}
use Rattle.hh_rows.specs.Thresholds.{threshold_of}
use Rattle.hh_rows.specs.declared.printed.RowOptions.{RowOptions}
use Rattle.hh_records.specs.Refusals.{RecordsRefused}
use Rattle.hh_faults.specs.declared.error.ToolError.{ToolError}
use Rattle.hh_faults.specs.declared.error.ToolError.TheVariants as tool
use Rattle.hh_faults.specs.declared.error.TreeFault.{TreeFault}
use Rattle.hh_files.specs.declared.by_plan.Prepared.{Prepared}
use Rattle.hh_files.specs.FilePasses.{IfKnown}
use Rattle.hh_rows.specs.declared.report_options.ReportOptions.{ReportOptions}
use Rattle.hh_rows.specs.declared.report_options.Tree.{Tree}
use Rattle.hh_rows.specs.declared.report_options.Tree.TheVariants as tree

-- the first test that options fail, before their tree
abbrev pub bad_option : ReportOptions → Option ToolError
bad_option o =
    if not (in_range o.depth max_depth) then Some tool.BadDepth
    else if not (in_range o.k max_k) then Some tool.BadK
    else if not (in_range o.workers max_workers) then Some tool.BadWorkers
    else if not (in_range o.width max_width) then Some tool.BadWidth
    else if is_none (threshold_of o.k o.threshold) then Some tool.BadThreshold
    else if not (in_range o.pieces max_pieces) then Some tool.BadPieces
    else None

-- a fault that options have, before their tree
abbrev pub IsOptionFault : ToolError → Type 0
IsOptionFault tool.BadDepth = ⊤
IsOptionFault tool.BadK = ⊤
IsOptionFault tool.BadWorkers = ⊤
IsOptionFault tool.BadWidth = ⊤
IsOptionFault tool.BadThreshold = ⊤
IsOptionFault tool.BadPieces = ⊤
IsOptionFault _ = ⊥

-- the settings of an analysis for these options and the threshold p/q
abbrev pub settings_of : ReportOptions → ℕ → ℕ → Settings
settings_of o p q = record {
  k = o.k;
  p = p;
  q = q;
  workers = o.workers;
  width = o.width;
  family = drawn_family o.seed o.depth;
}

-- the merge tree that a tree names over `pieces` pieces
abbrev pub Names : Tree → ℕ → MergeTree → Type 0
Names tree.Chain pieces plan = plan ≡ chain_of (pieces - 1)
Names tree.Balanced pieces plan = IsBalanced plan 0 pieces
Names (tree.Text t) pieces plan = SpellsTree t.items plan × IsMergeTree plan pieces

-- the tree is one of `pieces` pieces
abbrev pub IsTree : Tree → ℕ → Type 0
IsTree t pieces = (plan : MergeTree) × Names t pieces plan

-- what is wrong with a tree that is no plan of `pieces` pieces
abbrev pub TreeRefused : Tree → ℕ → TreeFault → Type 0
TreeRefused (tree.Text t) pieces f = PlanRefused t.items pieces (tool.BadTree f)
TreeRefused _ pieces f = ⊥

-- what a refusal to make the plan of a tree tells
abbrev pub PlanNotMade : Tree → ℕ → ToolError → Type 0
PlanNotMade t pieces (tool.BadTree f) = TreeRefused t pieces f
PlanNotMade t pieces tool.Memory = ⊤
PlanNotMade t pieces _ = ⊥

-- the options pass all tests
abbrev pub AreOptions : ReportOptions → Type 0
AreOptions o = (bad_option o ≡ None) × IsTree o.tree o.pieces

-- the records are the stream xs, and these are its keys above the threshold
-- p/q of the options
abbrev pub ReportsKeys : ReportOptions → Known → List Entry → List Entry → Type 0
ReportsKeys o known xs keys =
    (p : ℕ) × (q : ℕ) × (threshold_of o.k o.threshold ≡ Some (p, q))
    × ReadsAs known (Ok xs) × (keys ≡ heavy xs p q)

-- the records are a stream, and these are its total and its keys above p/q
abbrev pub AreKeysOf : Known → ℕ → ℕ → ℕ → List Entry → Type 0
AreKeysOf known p q total keys =
    (xs : List Entry) × ReadsAs known (Ok xs) × (total ≡ total_of xs) × (keys ≡ heavy xs p q)

-- the options pass all tests, and p/q is their threshold
pub record IsPrepared (o : ReportOptions) (prepared : Prepared) : Type 0 where
  pub options : AreOptions o
  pub threshold : threshold_of o.k o.threshold ≡ Some (prepared.p, prepared.q)
  pub share : IsShare prepared.p prepared.q

-- these are the rows of the keys of a report
abbrev pub ReportsRows : ReportOptions → Known → List ℕ → Type 0
ReportsRows o known rows =
    (xs : List Entry) × (keys : List Entry) × ReportsKeys o known xs keys × (rows ≡ rows_of keys)

-- these are the rows of the keys of a report, as the options of rows want them, with shares of the
-- stream's total
abbrev pub PrintsRows : RowOptions → ReportOptions → Known → List ℕ → Type 0
PrintsRows r o known rows =
    (xs : List Entry) × (keys : List Entry) × ReportsKeys o known xs keys
    × (rows ≡ printed_rows (total_of xs) r keys)

-- a whole report was written
abbrev pub IsReported : ReportOptions → Known → Option (List ℕ) → Option (List ℕ) → Type 0
IsReported o known old new = AreOptions o × (rows : List ℕ) × ReportsRows o known rows × Appends old new rows

-- what a refusal of the options tells: the first test that they fail, the tree's last
abbrev pub OptionsRefused : ReportOptions → ToolError → Type 0
OptionsRefused o (tool.BadTree f) = (bad_option o ≡ None) × TreeRefused o.tree o.pieces f
OptionsRefused o e = IsOptionFault e × (bad_option o ≡ Some e)

-- what a refusal before anything is written tells: of the options, or of the records after them
abbrev pub StartRefused : ReportOptions → Known → ToolError → Type 0
StartRefused o known tool.ReadFault = AreOptions o × RecordsRefused known tool.ReadFault
StartRefused o known (tool.BadRecord n c) = AreOptions o × RecordsRefused known (tool.BadRecord n c)
StartRefused o known tool.NoColumn = AreOptions o × RecordsRefused known tool.NoColumn
StartRefused o known tool.Memory = bad_option o ≡ None
StartRefused o known e = OptionsRefused o e

-- what each refusal of a report says, and what it leaves in the sink
abbrev pub ReportRefused : ReportOptions
    → Known → Option (List ℕ) → Option (List ℕ) → ToolError → Type 0
ReportRefused o known old new (tool.WriteFault n) =
    AreOptions o × (rows : List ℕ) × ReportsRows o known rows × TakesFirst old new rows n
ReportRefused o known old new e = StartRefused o known e × Keeps old new

-- ---- of files, which are read more than once: where no contract knows their bytes, nothing is said of the keys
-- where the records' bytes are known, these are their total and their keys above p/q
abbrev pub FindsKeys : Known → ℕ → ℕ → ℕ → List Entry → Type 0
FindsKeys known p q total keys = IfKnown known (AreKeysOf known p q total keys)

-- where the records' bytes are known, these are the rows of a report of them
abbrev pub PrintsFileRows : RowOptions → ReportOptions → Known → List ℕ → Type 0
PrintsFileRows r o known rows = IfKnown known (PrintsRows r o known rows)
