-- Reports of files that are read twice.
use Rattle.std.proofs.Common.{◌≡◌, ◌∙◌, ℕ, Bool, List, Option, Some, None, ap, zip}
use Rattle.std.specs.Map.{keys_of}
use Rattle.hh_stream.specs.Weights.{Entry, total_of}
use Rattle.hh_summaries.specs.Report.{heavy, rows_above, weights_at}
use Rattle.hh_tally.specs.Tallies.{AreBounds, TallyView, unsure_of}
use Rattle.hh_rows.specs.Printed.{printed_rows}
use Rattle.hh_records.specs.Streams.{Known, Reading}
use Rattle.hh_rows.specs.Thresholds.{threshold_of}
use Rattle.hh_rows.specs.declared.printed.RowOptions.{RowOptions}
use Rattle.hh_records.specs.Refusals.{RecordsRefused}
use Rattle.hh_files.specs.FilePasses.{TalliesRecords, WeighsRecords}
use Rattle.hh_files.specs.Report.{AreOptions, FindsKeys, PrintsFileRows, StartRefused}
use Rattle.hh_rows.specs.declared.report_options.ReportOptions.{ReportOptions}
use Rattle.hh_faults.specs.declared.error.ToolError.{ToolError}
use Rattle.hh_faults.specs.declared.error.ToolError.TheVariants as tool

-- ---- keys by a tally
module _ (names : Bool) (t : TallyView) (es : List Entry) where
  -- what a tally and a count say of the weights of keys is what they weigh in the records
  pub weights_found : (o : Option (Option Reading)) (counted ws : List ℕ)
      → TalliesRecords t.room (record { names_columns = names; reading = o }) t
      → WeighsRecords (record { names_columns = names; reading = o }) (keys_of (unsure_of t es)) counted
      → ((xs : List Entry) → AreBounds t xs → counted ≡ weights_at (keys_of (unsure_of t es)) xs
      → ws ≡ weights_at (keys_of es) xs)
      → WeighsRecords (record { names_columns = names; reading = o }) (keys_of es) ws
  weights_found None counted ws tallies weighs law = tt
  weights_found (Some k) counted ws (xs, read, room, bounds) weighs law =
      λ ys again. let same : xs ≡ ys = cc in law xs bounds (weighs xs read) ∙ ap (weights_at (keys_of es)) same

  -- and those above p/q of the total are the heavy keys
  pub keys_found : (o : Option (Option Reading)) (p q : ℕ) (ws : List ℕ) (rows : List Entry)
      → TalliesRecords t.room (record { names_columns = names; reading = o }) t
      → WeighsRecords (record { names_columns = names; reading = o }) (keys_of es) ws
      → ((xs : List Entry) → AreBounds t xs
      → rows_above p q (total_of xs) (zip (keys_of es) (weights_at (keys_of es) xs)) ≡ heavy xs p q)
      → rows ≡ rows_above p q t.total (zip (keys_of es) ws)
      → FindsKeys (record { names_columns = names; reading = o }) p q t.total rows
  keys_found None p q ws rows tallies weighs law is = tt
  keys_found (Some k) p q ws rows (xs, read, room, bounds) weighs law is = (
    xs,
    read,
    bounds.counted,
    is ∙ (λ i. rows_above p q (bounds.counted i) (zip (keys_of es) (weighs xs read i))) ∙ law xs bounds,
  )

-- ---- keys as a report
-- records that are refused refuse a report with lawful options
pub start_refused : (o : ReportOptions) (known : Known) (e : ToolError) → AreOptions o → RecordsRefused known e
    → StartRefused o known e
start_refused o known tool.ReadFault are h = (are, h)
start_refused o known (tool.BadRecord n c) are h = (are, h)
start_refused o known tool.NoColumn are h = (are, h)
start_refused o known tool.Memory are h = are.0
start_refused o known e are h = absurd h

-- the rows of the keys above the threshold of the options are those of their report
pub rows_of_keys : (r : RowOptions) (o : ReportOptions) (names : Bool) (k : Option (Option Reading)) (p q total : ℕ)
    (rows : List Entry) (text : List ℕ) → threshold_of o.k o.threshold ≡ Some (p, q) → text ≡ printed_rows total r rows
    → FindsKeys (record { names_columns = names; reading = k }) p q total rows
    → PrintsFileRows r o (record { names_columns = names; reading = k }) text
rows_of_keys r o names None p q total rows text e is h = tt
rows_of_keys r o names (Some k) p q total rows text e is (xs, read, sum, are) =
    (xs, rows, (p, q, e, read, are), is ∙ ap (λ (n : ℕ). printed_rows n r rows) sum)
