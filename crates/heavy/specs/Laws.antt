-- What holds of reports over several machines.
use Rattle.std.specs.Prelude.{◌≡◌, ℕ, ◌+◌, ◌*◌, ◌<◌, ◌≤◌, List, [], ◌∷◌, length, map, fold, slice_index_or, Contains, IsPermutation, Ok}
use Rattle.std.specs.List.{AllByRecursion, flat_map}
use Rattle.hh_stream.specs.Weights.{Bytes, Entry, total_of, weight_of}
use Rattle.hh_stream.specs.Cuttings.{whole_of}
use Rattle.hh_summaries.specs.Counters.{SummaryView, IsHonest, misra_gries, sketch_of}
use Rattle.hh_summaries.specs.Report.{heavy}
use Rattle.hh_counters.specs.Condensed.{condensed}
use Rattle.hh_pool.specs.Trees.{tree_result, tree_value}
use Rattle.hh_workers.specs.Trees.{MergeTree, Piece, Merge, IsMergeTree}
use Rattle.hh_saved.specs.Spelling.{Spells}
use Rattle.hh_saved.specs.declared.format.Version.{Version}
use Rattle.hh_saved.specs.declared.saved.Saved.{Saved}
use Rattle.hh_saved.specs.declared.saved.Saved.TheVariants.{Counters}
use Rattle.hh_commands.specs.Bounds.{AreWithin}
use Rattle.hh_commands.specs.Confirm.{confirmed_above}
use Rattle.hh_commands.specs.Files.{HoldsSummary}
use Rattle.hh_commands.specs.Merge.{merged_files}
use Rattle.hh_commands.specs.declared.compared.Bounds.TheVariants as bounds

-- parts that are condensed one by one, and joined in any order, are confirmed as the parts are
abbrev pub CondensedPartsConfirm : Type 0
CondensedPartsConfirm =
    (s : SummaryView) (parts : List (List Entry)) (ys : List Entry)
    → IsPermutation (flat_map (condensed s.counters) parts) ys
    → (total_of ys ≡ total_of (whole_of parts))
    × ((p q : ℕ) → confirmed_above p q s ys ≡ confirmed_above p q s (whole_of parts))

-- by a summary that is honest for the whole, however it was made, that is the whole's report above
-- each share p/q of at least 1/(k + 1)
abbrev pub HonestSummaryReports : Type 0
HonestSummaryReports =
    (s : SummaryView) (parts : List (List Entry)) (xs ys : List Entry) (p q : ℕ)
    → IsHonest s.counters (total_of xs) xs s.k
    → IsPermutation (whole_of parts) xs → IsPermutation (flat_map (condensed s.counters) parts) ys
    → q ≤ p * (s.k + 1) → confirmed_above p q s ys ≡ heavy xs p q

-- a stream in any parts, summarised one by one, merged by any tree, condensed one by one by what
-- was merged, joined in any order and confirmed above such a share: its heavy keys, with their
-- weights
abbrev pub MachinesReport : Type 0
MachinesReport =
    (t : MergeTree) (s : SummaryView) (parts : List (List Entry)) (xs ys : List Entry) (p q : ℕ)
    → IsPermutation (whole_of parts) xs → IsMergeTree t (length parts)
    → s.counters ≡ tree_value t (map (λ part. misra_gries part s.k) parts) s.k
    → IsPermutation (flat_map (condensed s.counters) parts) ys → q ≤ p * (s.k + 1)
    → (total_of ys ≡ total_of xs) × (confirmed_above p q s ys ≡ heavy xs p q)

-- the file holds the summary that the tree makes of the parts' summaries
abbrev pub HoldsTree : List SummaryView → MergeTree × List ℕ → Type 0
HoldsTree ss f = (s : SummaryView) × (tree_result f.0 ss ≡ Ok s) × HoldsSummary f.1 s

-- a tree with each next one on its right
abbrev pub merged_trees : MergeTree × List ℕ → List (MergeTree × List ℕ) → MergeTree
merged_trees f fs = fold Merge f.0 (map (λ g. g.0) fs)

-- the saved summary of part i holds the tree of that piece
abbrev pub PartsHoldPieces : Type 0
PartsHoldPieces =
    (k i : ℕ) (parts : List (List Entry)) (version : Version) (file : List ℕ) → i < length parts
    → Spells version file (Counters (sketch_of k (slice_index_or parts i [])))
    → HoldsTree (map (sketch_of k) parts) (Piece i, file)

-- what files with trees merge to, saved, holds these trees merged
abbrev pub MergesHoldTrees : Type 0
MergesHoldTrees =
    (ss : List SummaryView) (f : MergeTree × List ℕ) (fs : List (MergeTree × List ℕ)) (saved : Saved)
    (version : Version) (file : List ℕ)
    → AllByRecursion (HoldsTree ss) (f ∷ fs)
    → merged_files (map (λ g. g.1) (f ∷ fs)) ≡ Ok saved → Spells version file saved
    → HoldsTree ss (merged_trees f fs, file)

-- by the summary of a file with a tree that has each part once, the condensed parts have its total,
-- and are confirmed above such a share as the heavy keys of the whole
abbrev pub HeldTreesReport : Type 0
HeldTreesReport =
    (k : ℕ) (parts : List (List Entry)) (t : MergeTree) (file : List ℕ) (s : SummaryView)
    (xs ys : List Entry) (p q : ℕ)
    → HoldsTree (map (sketch_of k) parts) (t, file) → IsMergeTree t (length parts)
    → HoldsSummary file s
    → IsPermutation (whole_of parts) xs → IsPermutation (flat_map (condensed s.counters) parts) ys
    → q ≤ p * (k + 1) → (s.total ≡ total_of ys) × (confirmed_above p q s ys ≡ heavy xs p q)

-- by a summary that is honest for items, however it was made, no key is outside its bounds in items of
-- which each key with a counter weighs the same: in those items in any order, say
abbrev pub HonestKeepsBounds : Type 0
HonestKeepsBounds =
    (s : SummaryView) (xs ys : List Entry) → IsHonest s.counters s.total xs s.k
    → ((x : Bytes) → 0 < weight_of x s.counters → weight_of x ys ≡ weight_of x xs)
    → AreWithin bounds.Both s ys

-- and none is above the higher one in items of which no key weighs more: in a part of those items, say
abbrev pub PartsKeepBounds : Type 0
PartsKeepBounds =
    (s : SummaryView) (xs ys : List Entry) → IsHonest s.counters s.total xs s.k
    → ((x : Bytes) → weight_of x ys ≤ weight_of x xs) → AreWithin bounds.High s ys

-- by the summary of a file with a tree that has each part once, no key is outside its bounds in all parts
-- together, in any order, nor in the condensed parts, joined in any order; and in a part none is above
abbrev pub HeldTreesKeepBounds : Type 0
HeldTreesKeepBounds =
    (k : ℕ) (parts : List (List Entry)) (t : MergeTree) (file : List ℕ) (s : SummaryView)
    → HoldsTree (map (sketch_of k) parts) (t, file) → IsMergeTree t (length parts)
    → HoldsSummary file s
    → ((xs : List Entry) → IsPermutation (whole_of parts) xs → AreWithin bounds.Both s xs)
    × ((ys : List Entry) → IsPermutation (flat_map (condensed s.counters) parts) ys
    → AreWithin bounds.Both s ys)
    × ((part : List Entry) → Contains parts part → AreWithin bounds.High s part)
