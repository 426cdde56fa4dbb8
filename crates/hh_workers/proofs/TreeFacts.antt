-- How often each number is a leaf of a tree.
use Rattle.std.proofs.Common.{◌≡◌, ◌+◌, ◌-◌, ◌/◌, ◌≤◌, ◌∷◌, ℕ, zero, suc, [], zero-add, arith, min}
use Rattle.std.proofs.lemmas.Bool.Decides.{nat_tests}
use Rattle.hh_workers.specs.Trees.{MergeTree, Piece, Merge, IsBalanced, IsMergeTree, chain_of, leaves}
use Rattle.hh_shared.specs.Numbers.{times}
use Rattle.hh_shared.proofs.NumberFacts.{times-append}

-- 1 from b on
abbrev from : ℕ → ℕ → ℕ
from b i = min 1 (i + 1 - b)

-- the leaves are the numbers from a on, below b
abbrev IsRange : MergeTree → ℕ → ℕ → Type 0
IsRange t a b = (i : ℕ) → times i (leaves t) + from b i ≡ from a i

range-piece : (a i : ℕ) → times i (a ∷ []) + from (a + 1) i ≡ from a i
range-piece a i = grind (arith, nat_tests)

range-merge : (l r : MergeTree) (a b c : ℕ) → IsRange l a b → IsRange r b c → IsRange (Merge l r) a c
range-merge l r a b c g h i = omega (arith, times-append i (leaves l) (leaves r), g i, h i)

range-chain : (n : ℕ) → IsRange (chain_of n) 0 (n + 1)
range-chain zero i = range-piece 0 i
range-chain (suc n) i = omega
    (arith, times-append i (leaves (chain_of n)) ((n + 1) ∷ []), range-chain n i, range-piece (n + 1) i)

range-balanced : (t : MergeTree) (a m : ℕ) → IsBalanced t a m → IsRange t a (a + m)
range-balanced (Piece j) a m h i = rw (h.0, h.1) (range-piece a i)
range-balanced (Merge l r) a m h i =
    let half = (m + 1) / 2 in
    let end : a + half + (m - half) ≡ a + m = omega (arith, h.0) in
    rw (← end) (range-merge l r a (a + half) (a + half + (m - half)) (range-balanced l a half h.1)
    (range-balanced r (a + half) (m - half) h.2) i)

merge_tree : (t : MergeTree) (p : ℕ) → IsRange t 0 p → IsMergeTree t p
merge_tree t p h = record { once = λ i lt. omega (arith, h i); within = λ i le. omega (arith, h i) }

-- a chain of all pieces is a merge tree
pub chain_merges : (t : MergeTree) (p : ℕ) → 1 ≤ p → t ≡ chain_of (p - 1) → IsMergeTree t p
chain_merges t p some e =
    let count : p - 1 + 1 ≡ p = omega arith in
    rw e (merge_tree (chain_of (p - 1)) p (rw count at (range-chain (p - 1))))

-- a balanced tree of all pieces is a merge tree
pub balanced_merges : (t : MergeTree) (p : ℕ) → IsBalanced t 0 p → IsMergeTree t p
balanced_merges t p h = merge_tree t p (rw (zero-add p) at (range-balanced t 0 p h))
