-- Merge trees over numbered pieces.
use Rattle.std.specs.Prelude.{◌≡◌, ℕ, zero, suc, ◌+◌, ◌-◌, ◌/◌, ◌<◌, ◌≤◌, List, [], ◌∷◌, ◌++◌, refl}
use Rattle.std.proofs.Common.{sym, ap, ◌∙◌}
use base.Stored.{Coded, Gv, gnil, gnum, gcons}
use Rattle.hh_shared.specs.Numbers.{times}

-- a piece, or two trees whose results are merged
pub data MergeTree : Type 0 where
  Piece : (number : ℕ) → MergeTree
  Merge : (left right : MergeTree) → MergeTree

-- a tree as a code
abbrev pub code_of : MergeTree → Gv
code_of (Piece i) = gnum i
code_of (Merge l r) = gcons (code_of l) (code_of r)

-- the tree of a code
abbrev pub tree_of_code : Gv → MergeTree
tree_of_code gnil = Piece 0
tree_of_code (gnum i) = Piece i
tree_of_code (gcons l r) = Merge (tree_of_code l) (tree_of_code r)

-- a tree's code is that tree's alone
pub tree_of_code-code_of : (t : MergeTree) → tree_of_code (code_of t) ≡ t
tree_of_code-code_of (Piece i) = refl
tree_of_code-code_of (Merge l r) = λ i. Merge (tree_of_code-code_of l i) (tree_of_code-code_of r i)

-- the code by which proofs tell trees apart
abbrev pub tree_code : Coded MergeTree
tree_code = record {
  code = code_of;
  inj = λ s t e. sym (tree_of_code-code_of s) ∙ ap tree_of_code e ∙ tree_of_code-code_of t;
}

-- the pieces, from left to right
abbrev pub leaves : MergeTree → List ℕ
leaves (Piece i) = i ∷ []
leaves (Merge l r) = leaves l ++ leaves r

-- each number below p is a leaf exactly once, and no other number is
pub record IsMergeTree (t : MergeTree) (p : ℕ) : Type 0 where
  pub once : (i : ℕ) → i < p → times i (leaves t) ≡ 1
  pub within : (i : ℕ) → p ≤ i → times i (leaves t) ≡ 0

-- ((0 1) 2) and so on, with each next piece on the right: the chain of n + 1 pieces
abbrev pub chain_of : ℕ → MergeTree
chain_of zero = Piece 0
chain_of (suc n) = Merge (chain_of n) (Piece (n + 1))

-- of m pieces from a on, one is a leaf, and of more the first half, rounded up, are the left tree
abbrev pub IsBalanced : MergeTree → ℕ → ℕ → Type 0
IsBalanced (Piece i) a m = (i ≡ a) × (m ≡ 1)
IsBalanced (Merge l r) a m = (1 < m) × IsBalanced l a ((m + 1) / 2) × IsBalanced r (a + (m + 1) / 2) (m - (m + 1) / 2)
