-- What merge trees make of the pieces' summaries.
use Rattle.std.specs.Prelude.{◌≡◌, ℕ, ◌+◌, ◌<◌, ◌==◌, nat_le, List, [], ◌++◌, length, slice_index_or, Result, Ok, Err, ⊤, if◌then◌else◌}
use Rattle.hh_stream.specs.Weights.{Entry, max_total}
use Rattle.hh_summaries.specs.Counters.{Counters, IsHonest, SummaryView, join, merge_of}
use Rattle.hh_stream.specs.Cuttings.{whole_of}
use Rattle.hh_summaries.specs.declared.fault.SummaryFault.{SummaryFault}
use Rattle.hh_summaries.specs.declared.fault.SummaryFault.TheVariants as fault
use Rattle.hh_workers.specs.Trees.{MergeTree, Piece, Merge}

-- the counters that a tree makes of those of the pieces
abbrev pub tree_value : MergeTree → List Counters → ℕ → Counters
tree_value (Piece i) cs k = slice_index_or cs i []
tree_value (Merge l r) cs k = join (tree_value l cs k) (tree_value r cs k) k

-- one summary merged with another, or why not
abbrev pub merge_result : SummaryView → SummaryView → Result SummaryView SummaryFault
merge_result s t =
    if s.k == t.k then (if nat_le (s.total + t.total) max_total then Ok (merge_of s t) else Err fault.TotalTooLarge)
    else Err fault.DifferentK

-- the left refusal comes before the right one, and that of the node comes last
abbrev pub merge_both : Result SummaryView SummaryFault → Result SummaryView SummaryFault → Result SummaryView SummaryFault
merge_both (Err e) r = Err e
merge_both (Ok s) (Err e) = Err e
merge_both (Ok s) (Ok t) = merge_result s t

-- the summary where there is none
abbrev pub no_sketch : SummaryView
no_sketch = record { k = 0; total = 0; counters = [] }

-- the summary that a tree makes of those of the pieces, or the first refusal
abbrev pub tree_result : MergeTree → List SummaryView → Result SummaryView SummaryFault
tree_result (Piece i) ss = Ok (slice_index_or ss i no_sketch)
tree_result (Merge l r) ss = merge_both (tree_result l ss) (tree_result r ss)

-- a refusal is the one that is defined, unless memory ran out
abbrev pub Refuses : {X : Type 0} → Result X SummaryFault → SummaryFault → Type 0
Refuses defined fault.Memory = ⊤
Refuses defined e = defined ≡ Err e

-- the items of a tree's pieces, from left to right
abbrev pub items_of : MergeTree → List (List Entry) → List Entry
items_of (Piece i) pieces = slice_index_or pieces i []
items_of (Merge l r) pieces = items_of l pieces ++ items_of r pieces

-- where each summary is honest for a list of items, the merged one is honest for all of them
abbrev pub MergesHonestly : List SummaryView → SummaryView → Type 0
MergesHonestly ss s =
    (lists : List (List Entry)) → length lists ≡ length ss
    → ((i : ℕ) → i < length ss → let piece = slice_index_or ss i no_sketch in
    IsHonest piece.counters piece.total (slice_index_or lists i []) s.k)
    → IsHonest s.counters s.total (whole_of lists) s.k
