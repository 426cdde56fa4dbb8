-- The heavy keys, in the order of the report.
use Rattle.std.specs.Prelude.{◌≡◌, ℕ, ◌+◌, ◌*◌, ◌<◌, ◌≤◌, Bool, ◌&&◌, cond, nat_lt, nat_le, List, [], ◌∷◌, map, filter, fold, Contains, ◌↔◌}
use Rattle.std.specs.List.Sorted.{IsStrictlySortedBy}
use Rattle.std.specs.declared.cmp.Ordering.{Ordering}
use Rattle.std.specs.Ordering.{nat_cmp, ordering_then, is_lt}
use Rattle.hh_stream.specs.Weights.{Bytes, Entry, key_cmp, weight_of, total_of}
use Rattle.hh_summaries.specs.Counters.{tally}

-- by falling weight, then by rising key
abbrev pub rank_cmp : Entry → Entry → Ordering
rank_cmp d e = ordering_then (nat_cmp e.1 d.1) (key_cmp d.0 e.0)

-- e at its place in ranked entries
abbrev pub ranked_in : List Entry → Entry → List Entry
ranked_in [] e = e ∷ []
ranked_in (d ∷ ds) e = cond (is_lt (rank_cmp e d)) (e ∷ d ∷ ds) (d ∷ ranked_in ds e)

unfoldable pub by_rank : List Entry → List Entry
by_rank es = fold ranked_in [] es

-- the largest term of a share: 2^32
abbrev pub max_q : ℕ
max_q = 4294967296

-- p/q is more than nothing and at most the whole, and its terms are at most 2^32
abbrev pub IsShare : ℕ → ℕ → Type 0
IsShare p q = (1 ≤ p) × (p ≤ q) × (q ≤ max_q)

-- p/q is a share of at least 1/(k + 1), so that k counters miss no key above it
abbrev pub is_threshold : ℕ → ℕ → ℕ → Bool
is_threshold k p q = nat_le 1 p && nat_le p q && nat_le q max_q && nat_le q (p * (k + 1))

-- more than p/q of n
abbrev pub is_heavy : ℕ → ℕ → ℕ → Entry → Bool
is_heavy p q n e = nat_lt (p * n) (q * e.1)

-- those entries that are more than p/q of n, in the order of the report
abbrev pub rows_above : ℕ → ℕ → ℕ → List Entry → List Entry
rows_above p q n es = by_rank (filter (is_heavy p q n) es)

-- the keys that have more than p/q of the total weight, with their weights
abbrev pub heavy : List Entry → ℕ → ℕ → List Entry
heavy xs p q = rows_above p q (total_of xs) (tally xs)

-- the weight of each key in xs
abbrev pub weights_at : List Bytes → List Entry → List ℕ
weights_at ks xs = map (λ x. weight_of x xs) ks

-- each number, one for each key, with the key's weight in xs added
abbrev pub counts_with : List Bytes → List Entry → List ℕ → List ℕ
counts_with [] xs ns = ns
counts_with (x ∷ ks) xs [] = []
counts_with (x ∷ ks) xs (n ∷ ns) = (n + weight_of x xs) ∷ counts_with ks xs ns

-- whether the entry's key has a counter in c
abbrev pub has_counter : List Entry → Entry → Bool
has_counter c e = nat_lt 0 (weight_of e.0 c)

-- the report says exactly this
pub record IsReport (xs : List Entry) (p q : ℕ) (es : List Entry) : Type 0 where
  pub ranked : IsStrictlySortedBy rank_cmp es
  pub exact : (x : Bytes) (w : ℕ) → Contains es (x, w) ↔ ((w ≡ weight_of x xs) × (p * total_of xs < q * w))
