-- What a tree's parts need and give where its summaries are merged.
use Rattle.std.proofs.Common.{◌≡◌, ◌<◌, ◌∙◌, ℕ, List, [], Result, Ok, Err, refl, sym, arith, slice_index_or}
use Rattle.hh_summaries.specs.Counters.{SummaryView}
use Rattle.hh_summaries.specs.declared.fault.SummaryFault.{SummaryFault}
use Rattle.hh_summaries.specs.declared.fault.SummaryFault.TheVariants as fault
use Rattle.hh_shared.specs.Numbers.{times, IsDistinctBelow}
use Rattle.hh_shared.proofs.NumberFacts.{times-append, times-here}
use Rattle.hh_pool.specs.Trees.{Refuses, merge_both, no_sketch, tree_result}
use Rattle.hh_workers.specs.Trees.{MergeTree, Piece, Merge, leaves}
use Rattle.hh_workers.specs.Trees.{MergeTree, Piece, Merge, leaves}
use Rattle.hh_workers.proofs.LeafFacts.{at-left, at-right}

-- the summaries are the same but at the leaves of the tree
abbrev AreOutside : MergeTree → List SummaryView → List SummaryView → Type 0
AreOutside t xs ys =
    (i : ℕ) → times i (leaves t) ≡ 0 → slice_index_or ys i no_sketch ≡ slice_index_or xs i no_sketch

-- a result depends on the summaries at the leaves alone
result-same : (t : MergeTree) (xs ys : List SummaryView)
    → ((i : ℕ) → 0 < times i (leaves t) → slice_index_or ys i no_sketch ≡ slice_index_or xs i no_sketch)
    → tree_result t ys ≡ tree_result t xs
result-same (Piece i) xs ys h = rw (h i (omega (arith, times-here i []))) refl
result-same (Merge l r) xs ys h =
    rw (result-same l xs ys (at-left l r h), result-same r xs ys (at-right l r h)) refl

-- what the left tree took is none of the right tree's
right-same : (l r : MergeTree) (n : ℕ) (xs ys : List SummaryView) → IsDistinctBelow n (leaves (Merge l r))
    → AreOutside l xs ys → tree_result r ys ≡ tree_result r xs
right-same l r n xs ys h others =
    result-same r xs ys (λ i some. others i (omega (arith, some, h.once i, times-append i (leaves l) (leaves r))))

-- the left result is there: the node merges it with the right one, or is refused with it
pub node-result : (l r : MergeTree) (n : ℕ) (xs ys : List SummaryView) (s : SummaryView) (right : Result SummaryView SummaryFault)
    → IsDistinctBelow n (leaves (Merge l r)) → AreOutside l xs ys
    → tree_result l xs ≡ Ok s → tree_result r ys ≡ right → tree_result (Merge l r) xs ≡ merge_both (Ok s) right
node-result l r n xs ys s right h others left is = rw (left, sym (right-same l r n xs ys h others) ∙ is) refl

-- a refusal of the right tree is one of the node
pub node-refusal : (l r : MergeTree) (n : ℕ) (xs ys : List SummaryView) (s : SummaryView) (e : SummaryFault)
    → IsDistinctBelow n (leaves (Merge l r)) → AreOutside l xs ys
    → tree_result l xs ≡ Ok s → Refuses (tree_result r ys) e → Refuses (tree_result (Merge l r) xs) e
node-refusal l r n xs ys s fault.Memory h others left is = tt
node-refusal l r n xs ys s e h others left is = node-result l r n xs ys s (Err e) h others left is
