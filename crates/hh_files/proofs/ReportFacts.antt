-- Reports that are written, and their refusals.
use Rattle.std.proofs.Common.{◌≡◌, ℕ, List, Option, Some, None, Result, Ok, Err, Global, Vec, ap}
use Rattle.std.specs.Prelude.{IfErr, IfSome, OnOk}
use Rattle.std.specs.Io.KnownBytes.{Appends}
use Rattle.hh_workers.specs.PlanTexts.{PlanRefused}
use Rattle.hh_rows.specs.Sinks.{TextNotWritten}
use Rattle.hh_records.specs.Streams.{Known}
use Rattle.hh_files.specs.Report.{AreOptions, IsReported, PlanNotMade, ReportRefused, ReportsRows, StartRefused, bad_option}
use Rattle.hh_rows.specs.declared.report_options.ReportOptions.{ReportOptions}
use Rattle.hh_rows.specs.declared.report_options.Tree.TheVariants as tree
use Rattle.hh_faults.specs.declared.error.ToolError.{ToolError}
use Rattle.hh_faults.specs.declared.error.ToolError.TheVariants as tool

fault_same : (A : Type 0) {E : Type 0} (e f : E) → ◌≡◌ {A = Result A E} (Err e) (Err f) → e ≡ f
fault_same A e f h = cc

-- a fault that a call tells is told by one that passes it on
pub fault_is : (A B : Type 0) {E : Type 0} (o : Option E) (e : E) → IfSome o (λ f. ◌≡◌ {A = Result A E} (Err e) (Err f))
    → IfSome o (λ f. ◌≡◌ {A = Result B E} (Err e) (Err f))
fault_is A B None e h = tt
fault_is A B (Some f) e h = ap Err (fault_same A e f h)

-- a text that is no plan of the pieces makes none
pub text_unmade : (t : Vec ℕ Global) (pieces : ℕ) (e : ToolError) → PlanRefused t.items pieces e
    → PlanNotMade (tree.Text t) pieces e
text_unmade t pieces (tool.BadTree f) h = h
text_unmade t pieces tool.Memory h = tt
text_unmade t pieces e h = absurd h

-- options whose tree has no plan are refused
pub no_plan : (o : ReportOptions) (known : Known) (e : ToolError) → bad_option o ≡ None → PlanNotMade o.tree o.pieces e
    → StartRefused o known e
no_plan o known (tool.BadTree f) passes h = (passes, h)
no_plan o known tool.Memory passes h = passes
no_plan o known e passes h = absurd h

-- the rows of a report are written, where their text is
module _ {T : Type 0} (o : ReportOptions) (are : AreOptions o) (known : Known) (text : List ℕ) (it : ReportsRows o known text)
    (old new : Option (List ℕ)) where
  pub rows_written : (result : Result T ToolError) → OnOk result (Appends old new text)
      → OnOk result (IsReported o known old new)
  rows_written (Ok x) h = (are, text, it, h)
  rows_written (Err e) h = tt

  pub rows_not_written : (result : Result T ToolError) → IfErr result (TextNotWritten text old new)
      → IfErr result (ReportRefused o known old new)
  rows_not_written (Ok x) h = tt
  rows_not_written (Err (tool.WriteFault n)) h = (are, text, it, h)
  rows_not_written (Err tool.Memory) h = (are.0, h)
  rows_not_written (Err e) h = absurd h
