-- Counts and sums over lists.
use Rattle.std.specs.Prelude.{◌≡◌, ℕ, ◌%◌, ◌^◌, ◌<◌, List, ◌==◌, if◌then◌else◌, count_by, sum_by}

-- how often a number stands in a list
abbrev pub times : ℕ → List ℕ → ℕ
times j xs = count_by (λ x. x == j) xs

-- the sum of the amounts that were added to a cell, without a bound
abbrev pub cell_total : ℕ → List (ℕ × ℕ) → ℕ
cell_total cell adds = sum_by (λ a. if a.0 == cell then a.1 else 0) adds

-- the sum of the amounts that were added to a cell, modulo 2^64
abbrev pub sum_at : List (ℕ × ℕ) → ℕ → ℕ
sum_at adds cell = cell_total cell adds % 2 ^ 64

-- no number stands twice in the list, and each is below n
pub record IsDistinctBelow (n : ℕ) (xs : List ℕ) : Type 0 where
  pub once : (j : ℕ) → times j xs < 2
  pub below : (j : ℕ) → 0 < times j xs → j < n

-- each number below n stands in the list
pub record HasAllBelow (n : ℕ) (xs : List ℕ) : Type 0 where
  pub has : (j : ℕ) → j < n → 0 < times j xs

-- no number stands in both lists
abbrev pub AreDisjoint : List ℕ → List ℕ → Type 0
AreDisjoint xs ys = (j : ℕ) → 0 < times j xs → times j ys ≡ 0
