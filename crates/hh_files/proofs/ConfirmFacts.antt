-- What a summary's keys, counted in files, tell.
use Rattle.std.proofs.Common.{◌≡◌, ◌∙◌, ℕ, Bool, List, true, Some, Ok, Err, Result, Global, Vec, ap, sym}
use Rattle.std.specs.Prelude.{IfErr, IfOk, OnOk}
use Rattle.std.specs.Map.{keys_of}
use Rattle.hh_stream.specs.Ranges.{in_range}
use Rattle.hh_stream.specs.Weights.{Entry, total_of}
use Rattle.hh_summaries.specs.Counters.{SummaryView}
use Rattle.hh_counters.specs.Counting.{Count, count_of}
use Rattle.hh_workers.specs.Workers.{max_workers}
use Rattle.hh_records.specs.Streams.{Known}
use Rattle.hh_rows.specs.Printed.{printed_rows}
use Rattle.hh_rows.specs.Thresholds.{threshold_of}
use Rattle.hh_rows.specs.declared.printed.RowOptions.{RowOptions}
use Rattle.hh_rows.specs.declared.threshold.Share.{Share}
use Rattle.hh_commands.specs.Confirm.{ConfirmsPrinted, TellsCompared, TextRefused, confirmed_above}
use Rattle.hh_commands.specs.Files.{HoldsSummary}
use Rattle.hh_commands.specs.Records.{CountsRecords}
use Rattle.hh_commands.specs.declared.compared.Comparison.{Comparison}
use Rattle.hh_commands.proofs.BoundsFacts.{confirm_refused, confirm_told}
use Rattle.hh_faults.specs.declared.error.ToolError.{ToolError}
use Rattle.hh_faults.specs.declared.error.ToolError.TheVariants as tool
use Rattle.hh_files.specs.FilePasses.{ConfirmFilesRefused}

module _ (file : List ℕ) (known : Known) (s : SummaryView) (held : HoldsSummary file s) (counts : Count)
    (counted : CountsRecords known (keys_of s.counters) counts) where
  -- the rows of a count are those of the records
  pub rows_confirmed : (rows : RowOptions) (share : Share) (t : ℕ × ℕ) → threshold_of s.k share ≡ Some t
      → (result : Result (Vec ℕ Global) ToolError) → OnOk result (s.total ≡ counts.total)
      → IfOk result (λ text. (xs : List Entry) → counts ≡ count_of (keys_of s.counters) xs
      → text.items ≡ printed_rows s.total rows (confirmed_above t.0 t.1 s xs))
      → IfOk result (λ text. ConfirmsPrinted rows share file known text.items)
  rows_confirmed rows share t is (Ok text) total h =
      let (xs, reads, (weigh, made)) = counted in
      let same : s.total ≡ total_of xs = total ∙ ap (λ (c : Count). c.total) made in
      let rows_of : ℕ → List ℕ = λ n. printed_rows n rows (confirmed_above t.0 t.1 s xs) in
      (s, t.0, t.1, xs, held, is, reads, same, h xs made ∙ ap rows_of same)
  rows_confirmed rows share t is (Err e) total h = tt

  -- a refusal to print them tells what differs of the summary and of the records
  pub told_confirmed : {A : Type 0} (refuses : Bool) (told : Comparison) (result : Result A ToolError)
      → IfErr result (λ e. (xs : List Entry) → counts ≡ count_of (keys_of s.counters) xs → TextRefused refuses s xs told e)
      → IfErr result (TellsCompared file known told)
  told_confirmed refuses told (Ok x) h = tt
  told_confirmed refuses told (Err e) h = confirm_told file known s held counts counted refuses told e h

  -- and is one to confirm
  confirming_fault : (refuses : Bool) (told : Comparison) (share : Share) (workers : ℕ) (t : ℕ × ℕ)
      → threshold_of s.k share ≡ Some t → in_range workers max_workers ≡ true → (e : ToolError)
      → ((xs : List Entry) → counts ≡ count_of (keys_of s.counters) xs → TextRefused refuses s xs told e)
      → ConfirmFilesRefused refuses share workers file known e
  confirming_fault refuses told share workers t is few tool.TotalDiffers h =
      (s, held, rw (is, few) (confirm_refused file known s held counts counted refuses told tool.TotalDiffers h))
  confirming_fault refuses told share workers t is few tool.WeightOutside h =
      (s, held, rw (is, few) (confirm_refused file known s held counts counted refuses told tool.WeightOutside h))
  confirming_fault refuses told share workers t is few tool.Memory h = tt
  confirming_fault refuses told share workers t is few e h =
      let (xs, reads, (weigh, made)) = counted in absurd (h xs made)

  pub confirming_refused : {A : Type 0} (refuses : Bool) (told : Comparison) (share : Share) (workers : ℕ) (t : ℕ × ℕ)
      → threshold_of s.k share ≡ Some t → true ≡ in_range workers max_workers → (result : Result A ToolError)
      → IfErr result (λ e. (xs : List Entry) → counts ≡ count_of (keys_of s.counters) xs → TextRefused refuses s xs told e)
      → IfErr result (ConfirmFilesRefused refuses share workers file known)
  confirming_refused refuses told share workers t is few (Ok x) h = tt
  confirming_refused refuses told share workers t is few (Err e) h =
      confirming_fault refuses told share workers t is (sym few) e h
