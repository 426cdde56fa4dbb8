-- Refusals where a key outside its bounds refuses nothing.
use Rattle.std.proofs.Common.{ℕ, false, List, Result, Ok, Err}
use Rattle.std.specs.Prelude.{IfErr}
use Rattle.hh_summaries.specs.Counters.{SummaryView}
use Rattle.hh_records.specs.Streams.{Known}
use Rattle.hh_commands.specs.Condense.{CondensePartRefused, CondenseRefused, PartRefused}
use Rattle.hh_records.specs.Refusals.{RecordsRefused}
use Rattle.hh_faults.specs.declared.error.ToolError.{ToolError}
use Rattle.hh_faults.specs.declared.error.ToolError.TheVariants as tool

part_unasked : (s : SummaryView) (known : Known) (e : ToolError) → PartRefused false s known e → RecordsRefused known e
part_unasked s known tool.WeightOutside h = absurd (cc h.0)
part_unasked s known e h = h

condense_fault_unasked : (file : List ℕ) (known : Known) (e : ToolError)
    → CondensePartRefused false file known e → CondenseRefused file known e
condense_fault_unasked file known (tool.BadFile n f) h = h
condense_fault_unasked file known tool.NotCounters h = h
condense_fault_unasked file known tool.Memory h = h
condense_fault_unasked file known e (s, held, h) = (s, held, part_unasked s known e h)

-- what a refusal to condense tells then is what it tells where no bounds are compared
pub condense_unasked : {A : Type 0} (file : List ℕ) (known : Known) (result : Result A ToolError)
    → IfErr result (CondensePartRefused false file known) → IfErr result (CondenseRefused file known)
condense_unasked file known (Ok x) h = tt
condense_unasked file known (Err e) h = condense_fault_unasked file known e h
