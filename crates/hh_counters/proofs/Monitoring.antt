-- Items added to a monitor one by one.
use Rattle.std.proofs.Common.{◌≡◌, ◌+◌, ◌<◌, ◌≤◌, ◌∷◌, ◌++◌, ◌∙◌, ℕ, List, [], length, take, get_or, sym, ap, subst, arith, All}
use Rattle.std.proofs.Math.Seq.{take-length}
use Rattle.std.proofs.lemmas.List.{take_more}
use Rattle.std.proofs.lemmas.List.Elements.{All-more}
use Rattle.std.proofs.lemmas.List.Sums.{fold_push, sum_by_push}
use Rattle.hh_stream.specs.Weights.{Entry, total_of}
use Rattle.hh_summaries.specs.Counters.{SummaryView, sketch_of}
use Rattle.hh_counters.specs.SpaceSaving.{monitor_of, monitor_with, space_saving, step, translation_of}
use Rattle.hh_counters.proofs.Runs.{steps_are_a_run, run_is_misra_gries}

-- one more item is one more step
pub monitor_push : (k : ℕ) (xs : List Entry) (e : Entry)
    → monitor_of k (xs ++ e ∷ []) ≡ monitor_with (monitor_of k xs) e
monitor_push k xs e =
    let total : total_of (xs ++ e ∷ []) ≡ total_of xs + e.1 = sum_by_push (λ (d : Entry). d.1) xs e in
    λ j. record { k = k; total = total j; counters = fold_push (λ (s : List Entry) (d : Entry). step s d k) [] xs e j }

-- one more item
pub monitor_more : (k : ℕ) (xs : List Entry) (i : ℕ) (e : Entry) → i < length xs → e ≡ get_or xs i e
    → monitor_of k (take (i + 1) xs) ≡ monitor_with (monitor_of k (take i xs)) e
monitor_more k xs i e lt is =
    ap (monitor_of k) (take_more xs i e lt) ∙ monitor_push k (take i xs) (get_or xs i e)
    ∙ ap (monitor_with (monitor_of k (take i xs))) (sym is)

-- a monitor's translation is the summary of its items
pub translated_monitor : (k : ℕ) (xs : List Entry) → All (λ (e : Entry). 0 < e.1) xs
    → translation_of (monitor_of k xs) ≡ sketch_of k xs
translated_monitor k xs positive = ap (λ (c : List Entry). record { k = k; total = total_of xs; counters = c })
    (run_is_misra_gries xs k (space_saving xs k) positive (steps_are_a_run xs k positive))

-- the items so far have weights
pub positive_more : (xs : List Entry) (i : ℕ) (e : Entry) → i < length xs → e ≡ get_or xs i e → 0 < e.1
    → All (λ (d : Entry). 0 < d.1) (take i xs) → All (λ (d : Entry). 0 < d.1) (take (i + 1) xs)
positive_more xs i e lt is some before =
    All-more (λ (d : Entry). 0 < d.1) xs i e lt before (subst (λ (d : Entry). 0 < d.1) is some)

-- the loop over the items has come to its end
pub monitored_all : (k : ℕ) (xs : List Entry) (i : ℕ) (s : SummaryView) → i ≤ length xs → length xs ≤ i
    → s ≡ monitor_of k (take i xs) → All (λ (d : Entry). 0 < d.1) (take i xs) → translation_of s ≡ sketch_of k xs
monitored_all k xs i s low high is positive =
    let whole : take i xs ≡ xs = ap (λ n. take n xs) (omega (arith, low, high)) ∙ take-length xs in
    rw is (rw whole (translated_monitor k xs (subst (All (λ (d : Entry). 0 < d.1)) whole positive)))
