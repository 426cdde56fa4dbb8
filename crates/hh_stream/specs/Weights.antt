-- Keys, items and the weights of a list of items.
use Rattle.std.specs.Prelude.{ℕ, ◌≤◌, ◌<◌, Bool, cond, List, length, sum_by, All, EachIndex, slice_index}
use Rattle.std.specs.List.{AllByRecursion}
use Rattle.std.specs.declared.cmp.Ordering.{Ordering}
use Rattle.std.specs.Ordering.{nat_cmp, eq_by_cmp}
use Rattle.std.specs.Cmp.Lexicographic.{slice_cmp}

-- the bytes of a key
abbrev pub Bytes : Type 0
Bytes = List ℕ

-- the most bytes of a key
abbrev pub max_key_len : ℕ
max_key_len = 4096

-- the most bytes of a key that takes no memory
abbrev pub inline_len : ℕ
inline_len = 24

-- the largest total weight
abbrev pub max_total : ℕ
max_total = 9223372036854775807

-- a key has 1 to 4,096 bytes
pub record IsKey (x : Bytes) : Type 0 where
  pub some : 1 ≤ length x
  pub few : length x ≤ max_key_len
  pub bytes : EachIndex x (λ i. slice_index x i < 256)

-- the order of keys: byte by byte, and a proper prefix before the longer key
abbrev pub key_cmp : Bytes → Bytes → Ordering
key_cmp x y = slice_cmp nat_cmp x y

-- whether two keys are one
abbrev pub same_key : Bytes → Bytes → Bool
same_key x y = eq_by_cmp key_cmp x y

-- a key and a number: an item with its weight, or a counter
abbrev pub Entry : Type 0
Entry = Bytes × ℕ

-- the items have keys and weights
abbrev pub AreItems : List Entry → Type 0
AreItems xs = AllByRecursion (λ e. IsKey e.0) xs × All (λ e. 0 < e.1) xs

-- what an entry adds at the key x
abbrev pub at_key : Bytes → Entry → ℕ
at_key x e = cond (same_key x e.0) e.1 0

-- the sum of the weights at the key x. Of counters, in which no key comes twice, it is x's counter, and 0 where there
-- is none
abbrev pub weight_of : Bytes → List Entry → ℕ
weight_of x xs = sum_by (at_key x) xs

-- the sum of all weights, or of all counters
abbrev pub total_of : List Entry → ℕ
total_of xs = sum_by (λ e. e.1) xs
