-- Rows of records whose keys are compared with their bounds, where one that is outside refuses.
use Rattle.std.proofs.Common.{◌≡◌, ◌∙◌, ℕ, Bool, true, List, Option, Some, None, Result, Ok, Err, ap}
use Rattle.std.specs.Prelude.{IfOk, OnOk}
use Rattle.std.specs.Map.{keys_of}
use Rattle.hh_stream.specs.Weights.{Entry}
use Rattle.hh_summaries.specs.Counters.{SummaryView}
use Rattle.hh_counters.specs.Counting.{Count, count_of}
use Rattle.hh_records.specs.Streams.{Known}
use Rattle.hh_rows.specs.Outputs.{plain_output}
use Rattle.hh_rows.specs.Printed.{all_rows, printed_rows}
use Rattle.hh_rows.specs.declared.printed.RowOptions.{RowOptions}
use Rattle.hh_faults.specs.declared.error.ToolError.{ToolError}
use Rattle.hh_commands.specs.Bounds.{AreWithin, ComparesBounds, TellsOutside}
use Rattle.hh_commands.specs.Condense.{CondensesRows}
use Rattle.hh_commands.specs.Confirm.{confirmed_above}
use Rattle.hh_commands.specs.Files.{HoldsSummary}
use Rattle.hh_commands.specs.Records.{CountsRecords}
use Rattle.hh_commands.specs.declared.compared.Bounds.{Bounds}
use Rattle.hh_commands.specs.declared.compared.Bounds.TheVariants as bounds
use Rattle.hh_commands.specs.declared.compared.Outside.{Outside}
use Rattle.hh_library.specs.CountItems.{share_or_least}
use Rattle.hh_library.specs.LaidOut.{CondensesBounded, ConfirmsBounded}

-- where a key outside its bounds refuses, rows that are made tell that there is none
none_outside : (refuses : Bool) → refuses ≡ true → (b : Bounds) (s : SummaryView) (xs : List Entry) (found : Option Outside)
    → TellsOutside refuses b s xs found → AreWithin b s xs
none_outside refuses is b s xs None h = h
none_outside refuses is b s xs (Some o) h = absurd (h.0 is)

module _ {A : Type 0} (items : A → List ℕ) (file : List ℕ) (known : Known) (refuses : Bool) (asked : refuses ≡ true)
    (d : ℕ) (found : Option Outside) where
  -- so condensed rows are bounded
  pub condenses_bounded : (r : Result A ToolError) → IfOk r (λ x. CondensesRows d file known (items x))
      → OnOk r (ComparesBounds refuses bounds.High file known found)
      → IfOk r (λ x. CondensesBounded d file known (items x))
  condenses_bounded (Ok x) rows (s, xs, held, reads, tells) =
      (rows, (s, xs, held, reads, none_outside refuses asked bounds.High s xs found tells))
  condenses_bounded (Err e) rows compares = tt

  -- and so are confirmed ones
  pub confirms_bounded : (s : SummaryView) → HoldsSummary file s → (counts : Count) → CountsRecords known (keys_of s.counters) counts
      → (share : Option (ℕ × ℕ)) (t : ℕ × ℕ) → share_or_least share s.k ≡ Some t
      → (options : RowOptions) → options ≡ all_rows (plain_output d)
      → (r : Result A ToolError) → OnOk r (s.total ≡ counts.total)
      → IfOk r (λ x. (xs : List Entry) → counts ≡ count_of (keys_of s.counters) xs
      → items x ≡ printed_rows s.total options (confirmed_above t.0 t.1 s xs))
      → IfOk r (λ _. (xs : List Entry) → counts ≡ count_of (keys_of s.counters) xs
      → TellsOutside refuses bounds.Both s xs found)
      → IfOk r (λ x. ConfirmsBounded share d file known (items x))
  confirms_bounded s held counts (xs, reads, (weigh, made)) share t is options units (Ok x) same rows tells =
      let total = same ∙ ap (λ (c : Count). c.total) made in (
        s,
        t,
        xs,
        held,
        is,
        reads,
        total,
        none_outside refuses asked bounds.Both s xs found (tells xs made),
        rows xs made ∙ (λ j. printed_rows (total j) (units j) (confirmed_above t.0 t.1 s xs)),
      )
  confirms_bounded s held counts counted share t is options units (Err e) same rows tells = tt
