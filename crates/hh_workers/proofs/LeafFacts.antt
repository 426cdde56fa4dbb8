-- The leaves of a tree.
use Rattle.std.proofs.Common.{◌≡◌, ◌+◌, ◌<◌, ℕ, List, [], length, arith, slice_index_or, sum_by}
use Rattle.hh_shared.specs.Numbers.{times, IsDistinctBelow, HasAllBelow}
use Rattle.hh_shared.proofs.NumberFacts.{all-length, sum_by-all, times-append, times-here}
use Rattle.hh_workers.specs.Trees.{IsMergeTree, MergeTree, Piece, Merge, leaves}

-- how many merges a tree has
abbrev pub merges : MergeTree → ℕ
merges (Piece i) = 0
merges (Merge l r) = 1 + merges l + merges r

-- the leaves of a merge tree of p pieces are different numbers below p
pub distinct-leaves : (t : MergeTree) (p : ℕ) → IsMergeTree t p → IsDistinctBelow p (leaves t)
distinct-leaves t p h =
    record { once = λ i. grind (arith, h.once i, h.within i); below = λ i some. grind (arith, h.within i) }

all-leaves : (t : MergeTree) (p : ℕ) → IsMergeTree t p → HasAllBelow p (leaves t)
all-leaves t p h = record { has = λ i low. omega (arith, h.once i low) }

-- a merge tree of p pieces has p leaves
pub length_leaves : (t : MergeTree) (p : ℕ) → IsMergeTree t p → length (leaves t) ≡ p
length_leaves t p h = all-length p (leaves t) (distinct-leaves t p h) (all-leaves t p h)

-- a sum over the leaves of a merge tree is the sum over the list
pub sum-leaves : {X : Type 0} (g : X → ℕ) (d : X) (t : MergeTree) (ss : List X) → IsMergeTree t (length ss)
    → sum_by (λ i. g (slice_index_or ss i d)) (leaves t) ≡ sum_by g ss
sum-leaves g d t ss h = sum_by-all g d ss (leaves t) (distinct-leaves t (length ss) h) (all-leaves t (length ss) h)

-- what holds at each leaf of a node holds at each leaf of its left tree, and of its right one
pub at-left : {P : ℕ → Type 0} (l r : MergeTree) → ((i : ℕ) → 0 < times i (leaves (Merge l r)) → P i)
    → (i : ℕ) → 0 < times i (leaves l) → P i
at-left l r each i some = each i (omega (arith, some, times-append i (leaves l) (leaves r)))

-- the same of its right tree
pub at-right : {P : ℕ → Type 0} (l r : MergeTree) → ((i : ℕ) → 0 < times i (leaves (Merge l r)) → P i)
    → (i : ℕ) → 0 < times i (leaves r) → P i
at-right l r each i some = each i (omega (arith, some, times-append i (leaves l) (leaves r)))

-- the one leaf of a piece is a place
pub piece-place : (i n : ℕ) → IsDistinctBelow n (leaves (Piece i)) → i < n
piece-place i n h = h.below i (omega (arith, times-here i []))

-- different places are different ones in the left tree
pub left-places : (l r : MergeTree) (n : ℕ) → IsDistinctBelow n (leaves (Merge l r)) → IsDistinctBelow n (leaves l)
left-places l r n h = record {
  once = λ i. omega (arith, h.once i, times-append i (leaves l) (leaves r));
  below = at-left l r h.below;
}

-- and in the right one
pub right-places : (l r : MergeTree) (n : ℕ) → IsDistinctBelow n (leaves (Merge l r)) → IsDistinctBelow n (leaves r)
right-places l r n h = record {
  once = λ i. omega (arith, h.once i, times-append i (leaves l) (leaves r));
  below = at-right l r h.below;
}
