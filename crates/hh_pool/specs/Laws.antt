-- What holds of merge trees.
use Rattle.std.specs.Prelude.{◌≡◌, ℕ, ◌+◌, ◌*◌, ◌<◌, ◌≤◌, List, [], length, map, filter, slice_index_or, IsPermutation, Ok}
use Rattle.std.specs.List.{flat_map}
use Rattle.hh_stream.specs.Weights.{Entry, total_of}
use Rattle.hh_stream.specs.Cuttings.{whole_of}
use Rattle.hh_summaries.specs.Counters.{Counters, IsHonest, SummaryView, misra_gries, sketch_of}
use Rattle.hh_summaries.specs.Report.{has_counter, heavy}
use Rattle.hh_counters.specs.Condensed.{condensed}
use Rattle.hh_pool.specs.Outcomes.{IsMerged}
use Rattle.hh_workers.specs.PlanTexts.{SpellsTree}
use Rattle.hh_pool.specs.Trees.{tree_result, tree_value}
use Rattle.hh_workers.specs.Trees.{MergeTree, IsMergeTree}

-- what any tree makes of counters that are each honest for its part is honest for the whole
abbrev pub TreesAreHonest : Type 0
TreesAreHonest =
    (t : MergeTree) (cs : List Counters) (parts : List (List Entry)) (k : ℕ)
    → IsMergeTree t (length parts)
    → ((i : ℕ) → i < length parts → let part = slice_index_or parts i [] in
    IsHonest (slice_index_or cs i []) (total_of part) part k)
    → IsHonest (tree_value t cs k) (total_of (whole_of parts)) (whole_of parts) k

-- where c is what any tree makes of the parts' own counters, the parts that are condensed by c one
-- by one, and joined in whatever order, have the report of the whole, in whatever order that was
-- read, above each share p/q of at least 1/(k + 1)
abbrev pub PartsReportByAnyTree : Type 0
PartsReportByAnyTree =
    (t : MergeTree) (parts : List (List Entry)) (c : Counters) (xs ys : List Entry) (k p q : ℕ)
    → IsMergeTree t (length parts) → c ≡ tree_value t (map (λ part. misra_gries part k) parts) k
    → IsPermutation (whole_of parts) xs → IsPermutation (flat_map (condensed c) parts) ys
    → q ≤ p * (k + 1) → filter (has_counter c) (heavy ys p q) ≡ heavy xs p q

-- the summary that any tree makes of the parts' summaries is the merged summary of the whole
abbrev pub TreesMergeSummaries : Type 0
TreesMergeSummaries =
    (t : MergeTree) (k : ℕ) (parts : List (List Entry)) (s : SummaryView)
    → IsMergeTree t (length parts) → tree_result t (map (sketch_of k) parts) ≡ Ok s
    → IsMerged t k parts (whole_of parts) s

-- a text is that of one tree
abbrev pub TextsSpellOneTree : Type 0
TextsSpellOneTree =
    (text : List ℕ) (s t : MergeTree) → SpellsTree text s → SpellsTree text t → s ≡ t
