-- What a tree makes of honest counters is honest, and so a report of condensed parts is that of the whole.
use Rattle.std.proofs.Common.{◌<◌, ℕ, List, [], length, map, subst, arith, slice_index_or}
use Rattle.std.proofs.lemmas.List.{get_or-map}
use Rattle.std.proofs.lemmas.List.Sums.{sum_by-append}
use Rattle.hh_stream.specs.Weights.{Entry, total_of}
use Rattle.hh_stream.specs.Cuttings.{whole_of}
use Rattle.hh_summaries.specs.Counters.{Counters, IsHonest, misra_gries}
use Rattle.hh_counters.specs.Laws.{MisraGriesIsHonest, JoinOfHonestIsHonest, HonestInAnyOrder, CondensedPartsReport}
use Rattle.hh_shared.specs.Numbers.{times}
use Rattle.hh_pool.specs.Trees.{items_of, tree_value}
use Rattle.hh_workers.specs.Trees.{MergeTree, Piece, Merge, leaves}
use Rattle.hh_pool.specs.Laws.{PartsReportByAnyTree, TreesAreHonest}
use Rattle.hh_shared.proofs.NumberFacts.{times-here}
use Rattle.hh_workers.proofs.LeafFacts.{at-left, at-right, distinct-leaves}
use Rattle.hh_pool.proofs.ValueFacts.{honest-whole}

IsHonestAt : List Counters → List (List Entry) → ℕ → ℕ → Type 0
IsHonestAt cs parts k i =
    let part = slice_index_or parts i [] in IsHonest (slice_index_or cs i []) (total_of part) part k

honest-value : JoinOfHonestIsHonest → (t : MergeTree) (cs : List Counters) (parts : List (List Entry)) (k : ℕ)
    → ((i : ℕ) → 0 < times i (leaves t) → IsHonestAt cs parts k i)
    → IsHonest (tree_value t cs k) (total_of (items_of t parts)) (items_of t parts) k
unfolding IsHonestAt
honest-value law (Piece i) cs parts k each = each i (omega (arith, times-here i []))
honest-value law (Merge l r) cs parts k each =
    let left = honest-value law l cs parts k (at-left l r each) in
    let right = honest-value law r cs parts k (at-right l r each) in
    let ls = items_of l parts in
    let rs = items_of r parts in
    rw (sum_by-append (λ (e : Entry). e.1) ls rs)
    (law (tree_value l cs k) (tree_value r cs k) (total_of ls) (total_of rs) ls rs k left right)

-- whatever the tree, honest counters of the parts make honest counters of the whole
pub honest-tree : JoinOfHonestIsHonest → TreesAreHonest
unfolding IsHonestAt
honest-tree law t cs parts k tree each =
    let below = (distinct-leaves t (length parts) tree).below in
    let value = honest-value law t cs parts k (λ i some. each i (below i some)) in
    let whole = honest-whole t parts (tree_value t cs k) (total_of (items_of t parts)) k tree value in
    subst (λ m. IsHonest (tree_value t cs k) m (whole_of parts) k) whole.counted whole

-- and condensed by them, the parts have the report of the whole
pub report-by-tree : TreesAreHonest → MisraGriesIsHonest → HonestInAnyOrder → CondensedPartsReport
    → PartsReportByAnyTree
report-by-tree trees own order report t parts c xs ys k p q tree is whole perm share =
    let cs : List Counters = map (λ part. misra_gries part k) parts in
    let each : (i : ℕ) → i < length parts → let part = slice_index_or parts i [] in
    IsHonest (slice_index_or cs i []) (total_of part) part k = λ i low.
    let part = slice_index_or parts i [] in
    rw (get_or-map (λ (part : List Entry). misra_gries part k) parts i [] [] low) (own part k) in
    let value : IsHonest c (total_of (whole_of parts)) (whole_of parts) k =
    rw is (trees t cs parts k tree each) in
    let again = order c (total_of (whole_of parts)) (whole_of parts) xs k whole value in
    let honest : IsHonest c (total_of xs) xs k = subst (λ m. IsHonest c m xs k) again.counted again in
    report c parts xs ys k p q whole perm honest share
