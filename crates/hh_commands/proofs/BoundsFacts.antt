-- The bounds of a summary's keys, compared place by place, and what is told of them.
use Rattle.std.proofs.Common.{◌≡◌, ◌∙◌, ℕ, ◌+◌, ◌<◌, Bool, List, [], length, get_or, Option, Some, Result, Ok, Err, sym, ap, arith}
use Rattle.std.specs.Prelude.{IfOk, OnOk}
use Rattle.std.specs.List.Sorted.{IsStrictlySortedBy}
use Rattle.std.specs.Map.{keys_of}
use Rattle.std.proofs.lemmas.List.{get_or-map, get_or_default, length-map}
use Rattle.hh_stream.specs.Weights.{Bytes, Entry, key_cmp, weight_of}
use Rattle.hh_summaries.specs.Counters.{SummaryView, slack}
use Rattle.hh_summaries.specs.Report.{weights_at}
use Rattle.hh_summaries.proofs.Places.{weight_at}
use Rattle.hh_counters.specs.Counting.{Count, count_of}
use Rattle.hh_records.specs.Streams.{Known}
use Rattle.hh_faults.specs.declared.error.ToolError.{ToolError}
use Rattle.hh_faults.specs.declared.error.ToolError.TheVariants as tool
use Rattle.hh_commands.specs.Bounds.{AreWithin, ComparesBounds, IsBeyond, IsOutside, IsWithin, TellsOutside, bounds_of}
use Rattle.hh_commands.specs.Condense.{AboveRefused, CondensePartRefused, TellsAbove}
use Rattle.hh_commands.specs.Confirm.{CompareAboveRefused, CompareRefused, TellsCompared, TextRefused}
use Rattle.hh_commands.specs.Files.{HoldsSummary, RefusedFrom}
use Rattle.hh_commands.specs.Records.{CountsRecords, IsCountOf}
use Rattle.hh_commands.specs.declared.compared.Bounds.{Bounds}
use Rattle.hh_commands.specs.declared.compared.Comparison.{Comparison}
use Rattle.hh_commands.specs.declared.compared.Outside.{Outside}

-- the bounds of the counter at a place
abbrev pub bounds_at : SummaryView → ℕ → ℕ × ℕ
bounds_at s i =
    let low = (get_or s.counters i ([], 0)).1 in (low, low + slack s.counters s.total s.k)

-- the counter at a place has the bounds there
pub bounds_here : (s : SummaryView) (i : ℕ) → i < length s.counters → (x : Bytes) (low high : ℕ)
    → (x, low) ≡ get_or s.counters i (x, low) → high ≡ low + slack s.counters s.total s.k
    → (low, high) ≡ bounds_at s i
bounds_here s i lt x low high entry above =
    let here : (x, low) ≡ get_or s.counters i ([], 0) = entry ∙ get_or_default s.counters i (x, low) ([], 0) lt in
    let number = ap (λ (e : Entry). e.1) here in
    (λ j. (low, above j)) ∙ (λ j. (number j, number j + slack s.counters s.total s.k))

-- so a number within the counter's bounds is within those
pub within_here : (b : Bounds) (s : SummaryView) (i : ℕ) → i < length s.counters → (x : Bytes) (low high n m : ℕ)
    → (x, low) ≡ get_or s.counters i (x, low) → high ≡ low + slack s.counters s.total s.k → n ≡ m
    → IsWithin b (low, high) n → IsWithin b (bounds_at s i) m
within_here b s i lt x low high n m entry above same h =
    let bounds = bounds_here s i lt x low high entry above in rw (← bounds, ← same) h

module _ (b : Bounds) (s : SummaryView) (rising : IsStrictlySortedBy key_cmp (keys_of s.counters)) (xs : List Entry)
    (ns : List ℕ) (are : ns ≡ weights_at (keys_of s.counters) xs) (i : ℕ) (lt : i < length s.counters) where
  key_there : (d : Bytes) → get_or (keys_of s.counters) i d ≡ (get_or s.counters i ([], 0)).0
  key_there d = get_or-map (λ (e : Entry). e.0) s.counters i ([], 0) d lt

  -- the bounds and the number at a place are those of its key
  bounds_there : (d : Bytes) → bounds_at s i ≡ bounds_of s (get_or (keys_of s.counters) i d)
  bounds_there d =
      let low = weight_at s.counters i ([], 0) (get_or (keys_of s.counters) i d) rising lt (sym (key_there d)) in
      λ j. (low j, low j + slack s.counters s.total s.k)

  weight_there : (d : Bytes) → get_or ns i 0 ≡ weight_of (get_or (keys_of s.counters) i d) xs
  weight_there d =
      ap (λ (ms : List ℕ). get_or ms i 0) are
      ∙ get_or-map (λ x. weight_of x xs) (keys_of s.counters) i d 0
      (omega (arith, lt, length-map s.counters (λ (e : Entry). e.0)))

  within_there : IsWithin b (bounds_at s i) (get_or ns i 0) → (d : Bytes)
      → let x = get_or (keys_of s.counters) i d in IsWithin b (bounds_of s x) (weight_of x xs)
  within_there h d = rw (bounds_there d, weight_there d) at h

  -- a key beyond its bounds there is outside
  pub outside_there : (o : Outside) → (o.key, o.low) ≡ get_or s.counters i (o.key, o.low)
      → o.high ≡ o.low + slack s.counters s.total s.k → o.weight ≡ get_or ns i 0
      → IsBeyond b (o.low, o.high) o.weight → IsOutside b s xs o
  outside_there o entry high weight beyond =
      let here : (o.key, o.low) ≡ get_or s.counters i ([], 0) = entry ∙ get_or_default s.counters i (o.key, o.low) ([], 0) lt in
      let key : get_or (keys_of s.counters) i o.key ≡ o.key = key_there o.key ∙ sym (ap (λ (e : Entry). e.0) here) in
      record {
        known = (i, omega (arith, lt, length-map s.counters (λ (e : Entry). e.0)), key);
        weight = weight ∙ weight_there o.key ∙ ap (λ x. weight_of x xs) key;
        bounds = bounds_here s i lt o.key o.low o.high entry high ∙ bounds_there o.key ∙ ap (bounds_of s) key;
        beyond = beyond;
      }

-- where each place is within its bounds, so is each key
pub all_within : (b : Bounds) (s : SummaryView) → IsStrictlySortedBy key_cmp (keys_of s.counters) → (xs : List Entry)
    (counts : Count) → counts ≡ count_of (keys_of s.counters) xs
    → ((i : ℕ) → i < length s.counters → IsWithin b (bounds_at s i) (get_or counts.weights i 0)) → AreWithin b s xs
all_within b s rising xs counts are each = λ i d lt.
    let l : i < length s.counters = omega (arith, lt, length-map s.counters (λ (e : Entry). e.0)) in
    within_there b s rising xs counts.weights (ap (λ (c : Count). c.weights) are) i l (each i l) d

-- ---- of records

module _ (file : List ℕ) (known : Known) (s : SummaryView) (held : HoldsSummary file s) (counts : Count)
    (counted : CountsRecords known (keys_of s.counters) counts) (refuses : Bool) (told : Comparison) where
  -- bounds that were compared are those of the file's summary, and of the records
  pub bounds_compared : {A : Type 0} (b : Bounds) (result : Result A ToolError)
      → IfOk result (λ _. (xs : List Entry) → counts ≡ count_of (keys_of s.counters) xs
      → TellsOutside refuses b s xs told.outside)
      → OnOk result (ComparesBounds refuses b file known told.outside)
  bounds_compared b (Ok x) h =
      let (xs, reads, (weigh, made)) = counted in (s, xs, held, reads, h xs made)
  bounds_compared b (Err e) h = tt

  -- so it is with what a refusal to confirm tells
  pub confirm_refused : (e : ToolError)
      → ((xs : List Entry) → counts ≡ count_of (keys_of s.counters) xs → TextRefused refuses s xs told e)
      → CompareRefused refuses s known e
  confirm_refused tool.TotalDiffers h =
      let (xs, reads, (weigh, made)) = counted in (xs, reads, (h xs made).0)
  confirm_refused tool.WeightOutside h =
      let (xs, reads, (weigh, made)) = counted in
      let (is, total, o, left, out) = h xs made in (is, xs, o, reads, total, out)
  confirm_refused tool.Memory h = tt
  confirm_refused e h = let (xs, reads, (weigh, made)) = counted in absurd (h xs made)

  pub confirm_told : (e : ToolError)
      → ((xs : List Entry) → counts ≡ count_of (keys_of s.counters) xs → TextRefused refuses s xs told e)
      → TellsCompared file known told e
  confirm_told tool.TotalDiffers h =
      let (xs, reads, (weigh, made)) = counted in (s, xs, held, reads, (h xs made).1)
  confirm_told tool.WeightOutside h =
      let (xs, reads, (weigh, made)) = counted in
      let (is, total, o, left, out) = h xs made in (s, xs, o, held, reads, left, out)
  confirm_told e h = tt

  -- and where the summary was read first, and then a share was tested
  pub rows_refused : (asked : SummaryView → Option (ℕ × ℕ)) (t : ℕ × ℕ) → asked s ≡ Some t → (e : ToolError)
      → ((xs : List Entry) → counts ≡ count_of (keys_of s.counters) xs → TextRefused refuses s xs told e)
      → RefusedFrom file (λ s. CompareAboveRefused refuses (asked s) s known) e
  rows_refused asked t is tool.TotalDiffers h = (s, held, rw is (confirm_refused tool.TotalDiffers h))
  rows_refused asked t is tool.WeightOutside h = (s, held, rw is (confirm_refused tool.WeightOutside h))
  rows_refused asked t is tool.Memory h = tt
  rows_refused asked t is e h = let (xs, reads, (weigh, made)) = counted in absurd (h xs made)

  -- so it is where records are condensed
  pub part_compared : {A : Type 0} (b : Bounds) (result : Result A ToolError)
      → IfOk result (λ _. (xs : List Entry) → IsCountOf (keys_of s.counters) xs counts
      → TellsOutside refuses b s xs told.outside)
      → OnOk result (ComparesBounds refuses b file known told.outside)
  part_compared b (Ok x) h = let (xs, reads, made) = counted in (s, xs, held, reads, h xs made)
  part_compared b (Err e) h = tt

  -- and with what a refusal to condense tells
  pub part_refused : (e : ToolError)
      → ((xs : List Entry) → IsCountOf (keys_of s.counters) xs counts → AboveRefused refuses s xs told e)
      → CondensePartRefused refuses file known e
  part_refused tool.WeightOutside h =
      let (xs, reads, made) = counted in
      let (is, o, left, out) = h xs made in (s, held, (is, xs, o, reads, out))
  part_refused tool.Memory h = tt
  part_refused e h = let (xs, reads, made) = counted in absurd (h xs made)

  pub part_told : (e : ToolError)
      → ((xs : List Entry) → IsCountOf (keys_of s.counters) xs counts → AboveRefused refuses s xs told e)
      → TellsAbove file known told e
  part_told tool.WeightOutside h =
      let (xs, reads, made) = counted in
      let (is, o, left, out) = h xs made in (s, xs, o, held, reads, left, out)
  part_told e h = tt
