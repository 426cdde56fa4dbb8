-- What a summary's keys, counted in files, condense to.
use Rattle.std.proofs.Common.{◌≡◌, ℕ, Bool, List, true, Ok, Err, Result, Global, Vec, sym}
use Rattle.std.specs.Prelude.{IfErr, IfOk}
use Rattle.std.specs.Map.{keys_of}
use Rattle.hh_stream.specs.Ranges.{in_range}
use Rattle.hh_stream.specs.Weights.{Entry}
use Rattle.hh_summaries.specs.Counters.{SummaryView}
use Rattle.hh_counters.specs.Condensed.{condensed}
use Rattle.hh_counters.specs.Counting.{Count}
use Rattle.hh_workers.specs.Workers.{max_workers}
use Rattle.hh_records.specs.Streams.{Known}
use Rattle.hh_rows.specs.Rows.{condensed_in}
use Rattle.hh_rows.specs.declared.output.Output.{Output}
use Rattle.hh_commands.specs.Condense.{AboveRefused, CondensesIn}
use Rattle.hh_commands.specs.Files.{HoldsSummary}
use Rattle.hh_commands.specs.Records.{CountsRecords, IsCountOf}
use Rattle.hh_commands.specs.declared.compared.Comparison.{Comparison}
use Rattle.hh_faults.specs.declared.error.ToolError.{ToolError}
use Rattle.hh_faults.specs.declared.error.ToolError.TheVariants as tool
use Rattle.hh_files.specs.FilePasses.{CondenseFilesRefused}

module _ (file : List ℕ) (known : Known) (s : SummaryView) (held : HoldsSummary file s) (counts : Count)
    (counted : CountsRecords known (keys_of s.counters) counts) where
  -- the rows of a count are those of the records
  pub rows_condensed : (output : Output) (result : Result (Vec ℕ Global) ToolError)
      → IfOk result (λ text. (xs : List Entry) → IsCountOf (keys_of s.counters) xs counts
      → text.items ≡ condensed_in output (condensed s.counters xs))
      → IfOk result (λ text. CondensesIn output file known text.items)
  rows_condensed output (Ok text) h = let (xs, reads, made) = counted in (s, xs, held, reads, h xs made)
  rows_condensed output (Err e) h = tt

  -- a refusal to condense them is one of the files
  condensing_fault : (refuses : Bool) (told : Comparison) (workers : ℕ) → in_range workers max_workers ≡ true
      → (e : ToolError)
      → ((xs : List Entry) → IsCountOf (keys_of s.counters) xs counts → AboveRefused refuses s xs told e)
      → CondenseFilesRefused refuses workers file known e
  condensing_fault refuses told workers few tool.WeightOutside h =
      let (xs, reads, made) = counted in
      let (is, o, left, out) = h xs made in (s, held, rw few (is, xs, o, reads, out))
  condensing_fault refuses told workers few tool.Memory h = tt
  condensing_fault refuses told workers few e h = let (xs, reads, made) = counted in absurd (h xs made)

  pub condensing_refused : {A : Type 0} (refuses : Bool) (told : Comparison) (workers : ℕ)
      → true ≡ in_range workers max_workers → (result : Result A ToolError)
      → IfErr result (λ e. (xs : List Entry) → IsCountOf (keys_of s.counters) xs counts → AboveRefused refuses s xs told e)
      → IfErr result (CondenseFilesRefused refuses workers file known)
  condensing_refused refuses told workers few (Ok x) h = tt
  condensing_refused refuses told workers few (Err e) h =
      condensing_fault refuses told workers (sym few) e h
