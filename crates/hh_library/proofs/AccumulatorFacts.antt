-- A summary as a monitor, and back.
use Rattle.std.proofs.Common.{◌≡◌, ◌∙◌, ◌||◌, ℕ, ◌+◌, ◌-◌, ◌<◌, ◌≤◌, true, false, cond, List, [], ◌∷◌, ◌++◌, length, take, fold, get_or, nat_le, nat_lt, Result, Ok, Err, ap, arith, inl, inr, refl, subst, sym}
use Rattle.std.specs.Prelude.{IfErr, OnOk}
use Rattle.std.specs.List.Sorted.{IsStrictlySortedBy}
use Rattle.std.proofs.lemmas.Bool.Decides.{leb_tells}
use Rattle.std.proofs.lemmas.List.{take_all, take_more}
use Rattle.std.proofs.lemmas.List.Elements.{All-push}
use Rattle.std.proofs.lemmas.List.Sums.{sum_by_more_le}
use Rattle.hh_stream.specs.Weights.{Entry, max_total, total_of, weight_of}
use Rattle.hh_summaries.specs.Counters.{Counters, Fits, IsCounters, SummaryView, add_at, cut, join, lower, merge_of, sketch_of, sketch_with, tally}
use Rattle.hh_summaries.proofs.Level.{level_few}
use Rattle.hh_summaries.proofs.Summaries.{length-add_at, lower_none}
use Rattle.hh_summaries.proofs.Weights.{tally_of_counters}
use Rattle.hh_counters.specs.Laws.{MonitorsFollowItems, SummariesFollowItems}
use Rattle.hh_commands.specs.Files.{Refuses, file_of}
use Rattle.hh_commands.specs.Merge.{merge_saved, merged_from}
use Rattle.hh_commands.proofs.FileFacts.{refuses_along}
use Rattle.hh_faults.specs.declared.error.ToolError.{ToolError}
use Rattle.hh_saved.specs.declared.saved.Saved.{Saved}
use Rattle.hh_saved.specs.declared.saved.Saved.TheVariants.{Counters as Counted}
use Rattle.hh_counters.specs.SpaceSaving.{least_of, monitor_of, monitor_with, space_saving, step, taken_over, translate, translation_of}
use Rattle.hh_library.specs.Add.{total_in, value_and}
use Rattle.hh_library.specs.Accumulator.{Grows, HasSeen, heavier, value_of}
use Rattle.hh_library.specs.declared.accumulator.Form.{Form}
use Rattle.hh_library.specs.declared.accumulator.Form.TheVariants.{Monitored}

-- ---- an item more
module _ (monitors : MonitorsFollowItems) (m : SummaryView) (e : Entry) (some : 0 < e.1) (seen : HasSeen m) where
  -- a monitor has seen it, too
  pub seen_more : HasSeen (monitor_with m e)
  seen_more = (
    seen.0 ++ e ∷ [],
    All-push (λ (d : Entry). 0 < d.1) seen.0 e seen.1 some,
    ap (λ (s : SummaryView). monitor_with s e) seen.2 ∙ sym (monitors m.k seen.0 e).1,
  )

  -- and its translation has it added
  pub translated_more : SummariesFollowItems → (n : ℕ)
      → heavier n (translation_of (monitor_with m e)) ≡ sketch_with (heavier n (translation_of m)) e
  unfolding seen_more
  translated_more sums n =
      let before : translation_of m ≡ sketch_of m.k seen.0 =
      ap translation_of seen.2 ∙ (monitors m.k seen.0 e).2 seen.1 in
      let after : translation_of (monitor_with m e) ≡ sketch_of m.k (seen.0 ++ e ∷ []) =
      ap translation_of seen_more.2 ∙ (monitors m.k seen_more.0 e).2 seen_more.1 in
      let one : translation_of (monitor_with m e) ≡ sketch_with (translation_of m) e =
      after ∙ (sums m.k seen.0 e).1 ∙ ap (λ (s : SummaryView). sketch_with s e) (sym before) in
      let total : n + (m.total + e.1) ≡ n + m.total + e.1 = omega arith in
      ap (heavier n) one
      ∙ (λ j. record { k = m.k; total = total j; counters = join (translate m.counters m.k) (e ∷ []) m.k })

-- a form with a monitor
module _ (form : Form) (n : ℕ) (m new : SummaryView) (e : Entry) (is : form ≡ Monitored n m) (grows : Grows form)
    (some : 0 < e.1) (made : new ≡ monitor_with m e) (monitors : MonitorsFollowItems) where
  as_monitor : Grows (Monitored n m)
  as_monitor = subst Grows is grows

  -- is one of the value with the item
  pub monitor_added : SummariesFollowItems
      → Counted (heavier n (translation_of new)) ≡ value_and (value_of form) (e ∷ [])
  monitor_added sums =
      ap (λ (s : SummaryView). Counted (heavier n (translation_of s))) made
      ∙ ap Counted (translated_more monitors m e some as_monitor.0 sums n)
      ∙ ap (λ (f : Form). value_and (value_of f) (e ∷ [])) (sym is)

  -- and goes on to grow
  pub monitor_grows : total_in (value_of form) + e.1 ≤ max_total → Grows (Monitored n new)
  monitor_grows room =
      let here : n + m.total + e.1 ≤ max_total = subst (λ (f : Form). total_in (value_of f) + e.1 ≤ max_total) is room in
      let total : new.total ≡ m.total + e.1 = ap (λ (s : SummaryView). s.total) made in
      (subst HasSeen (sym made) (seen_more monitors m e some as_monitor.0), omega (arith, here, total))

-- ---- counters that there is room for
cut_none : (c : Counters) (k : ℕ) → IsCounters c → length c ≤ k → cut c k ≡ c
cut_none c k h few = ap (λ t. lower t c) (level_few c k few) ∙ lower_none c h

-- joined to none, they are as they were
pub joined_to_none : (c : Counters) (k : ℕ) → IsCounters c → length c ≤ k → join [] c k ≡ c
joined_to_none c k h few = ap (λ (d : Counters). cut d k) (tally_of_counters c h) ∙ cut_none c k h few

fits_in : (m n : ℕ) → m ≤ n → nat_le m n ≡ true
fits_in m n le = elim (leb_tells m n) [
  | inl (e, _) ↦ e
  | inr (e, more) ↦ absurd (omega (arith, le, more))
]

step_with_room : (s : Counters) (e : Entry) (k : ℕ) → length s ≤ k → step s e k ≡ add_at s e
step_with_room s e k few =
    elim (nat_lt 0 (weight_of e.0 s)) as (λ b. cond (b || nat_le (length s) k) (add_at s e) (taken_over s e) ≡ add_at s e) [
      | true ↦ refl
      | false ↦ rw (fits_in (length s) k few) refl
    ]

steps_with_room : (xs : List Entry) (s : Counters) (k : ℕ) → length s + length xs ≤ k
    → fold (λ s e. step s e k) s xs ≡ fold add_at s xs
steps_with_room [] s k few = refl
steps_with_room (e ∷ xs) s k few =
    ap (λ (t : Counters). fold (λ s e. step s e k) t xs) (step_with_room s e k (omega (arith, few)))
    ∙ steps_with_room xs (add_at s e) k (omega (arith, few, length-add_at s e))

counted : (c : Counters) (k : ℕ) → IsCounters c → length c ≤ k → space_saving c k ≡ c
unfolding tally
counted c k h few = steps_with_room c [] k (omega (arith, few)) ∙ tally_of_counters c h

translated_none : (c : Counters) (k : ℕ) → IsCounters c → length c ≤ k → translate c k ≡ c
translated_none c k h few =
    let least : least_of c k ≡ 0 = rw (fits_in (length c) k few) refl in
    ap (λ t. lower t c) least ∙ lower_none c h

-- ---- a summary, seen as items
-- an entry more
pub entry_seen : MonitorsFollowItems → (k : ℕ) (c : Counters) (i : ℕ) (e : Entry) → i < length c → e ≡ get_or c i e
    → (m : SummaryView) → m ≡ monitor_of k (take i c) → monitor_with m e ≡ monitor_of k (take (i + 1) c)
entry_seen monitors k c i e lt is m so_far =
    ap (λ (s : SummaryView). monitor_with s e) so_far ∙ ap (monitor_with (monitor_of k (take i c))) is
    ∙ sym (monitors k (take i c) (get_or c i e)).1 ∙ ap (monitor_of k) (sym (take_more c i e lt))

-- for which there is room in the total
pub entry_fits : (c : Counters) (i : ℕ) (e : Entry) → i < length c → e ≡ get_or c i e
    → (k n : ℕ) (m : SummaryView) → m ≡ monitor_of k (take i c) → total_of c ≤ n → m.total + e.1 ≤ n
entry_fits c i e lt is k n m so_far le =
    let total : m.total ≡ total_of (take i c) = ap (λ (s : SummaryView). s.total) so_far in
    let number : e.1 ≡ (get_or c i e).1 = ap (λ (d : Entry). d.1) is in
    let within = sum_by_more_le (λ (d : Entry). d.1) c i e lt in
    omega (arith, total, number, within, le)

-- the last one
pub all_seen : (k : ℕ) (c : Counters) (i : ℕ) (m : SummaryView) → length c ≤ i → m ≡ monitor_of k (take i c)
    → m ≡ monitor_of k c
all_seen k c i m all so_far = so_far ∙ ap (monitor_of k) (take_all i c all)

module _ (s : SummaryView) (fits : Fits s.k s.total s.counters) where
  -- their monitor is translated to it, where what the total has besides is put after it
  pub entries_translated : (n : ℕ)
      → heavier (n + (s.total - total_of s.counters)) (translation_of (monitor_of s.k s.counters)) ≡ heavier n s
  entries_translated n =
      let same : translate (space_saving s.counters s.k) s.k ≡ s.counters =
      ap (λ (c : Counters). translate c s.k) (counted s.counters s.k fits.entries fits.few)
      ∙ translated_none s.counters s.k fits.entries fits.few in
      let total : n + (s.total - total_of s.counters) + total_of s.counters ≡ n + s.total = omega (arith, fits.within) in
      λ j. record { k = s.k; total = total j; counters = same j }

  -- a summary of no counters takes its place
  pub nothing_fits : (n : ℕ) → n ≤ max_total → Fits s.k n []
  unfolding IsStrictlySortedBy
  nothing_fits n le = record {
    some = fits.some;
    bounded_k = fits.bounded_k;
    bounded_total = omega (arith, le);
    few = omega arith;
    entries = record { rising = tt; positive = tt };
    within = omega arith;
  }

  -- merged with it, it has its counters, and both totals
  pub merged_heavier : (n : ℕ) → merge_of (record { k = s.k; total = n; counters = [] }) s ≡ heavier n s
  merged_heavier n =
      let same = joined_to_none s.counters s.k fits.entries fits.few in
      λ j. record { k = s.k; total = n + s.total; counters = same j }

-- ---- a file, merged into the value
module _ (v : Saved) (file : List ℕ) where
  -- one that is no saved file is refused for that
  pub unread_one : (e : ToolError) → Refuses (file_of 2 file) e → Refuses (merged_from 2 v (file ∷ [])) e
  unfolding merged_from
  unread_one e refused =
      refuses_along e (file_of 2 file) (merged_from 2 v (file ∷ [])) (λ h. rw h refl) refused

  -- one that is read is merged as its value is
  merged_so : (next : Saved) → file_of 2 file ≡ Ok next → (r : Result Saved ToolError) → merge_saved 2 v next ≡ r
      → merged_from 2 v (file ∷ []) ≡ r
  unfolding merged_from
  merged_so next read (Ok both) made = rw (read, made) refl
  merged_so next read (Err e) made = rw (read, made) refl

  -- so the merge of a value that is the same ends
  pub merge_ends : (next : Saved) → file_of 2 file ≡ Ok next → (same : Saved) → same ≡ v
      → (r : Result Unit ToolError) (both : Saved)
      → (OnOk r (merge_saved 2 same next ≡ Ok both) → OnOk r (merged_from 2 v (file ∷ []) ≡ Ok both))
      × (IfErr r (Refuses (merge_saved 2 same next)) → IfErr r (Refuses (merged_from 2 v (file ∷ []))))
  merge_ends next read same is (Ok u) both =
      (λ made. merged_so next read (Ok both) (subst (λ (s : Saved). merge_saved 2 s next ≡ Ok both) is made), λ refused. tt)
  merge_ends next read same is (Err e) both = (
    λ made. tt,
    λ refused. refuses_along e (merge_saved 2 v next) (merged_from 2 v (file ∷ [])) (merged_so next read (Err e))
        (subst (λ (s : Saved). Refuses (merge_saved 2 s next) e) is refused),
  )
