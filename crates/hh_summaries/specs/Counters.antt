-- Counters: finite maps from keys to positive numbers, and the summaries of Misra and Gries over them.
use Rattle.std.specs.Prelude.{◌≡◌, ℕ, ◌+◌, ◌-◌, ◌*◌, ◌/◌, ◌^◌, ◌≤◌, ◌<◌, Bool, cond, min, nat_lt, nat_le, List, [], ◌∷◌, ◌++◌, length, map, filter, fold, count_by}
use Rattle.std.specs.List.{AllByRecursion}
use Rattle.std.specs.List.Sorted.{IsStrictlySortedBy}
use Rattle.std.specs.Map.{keys_of, values_of}
use Rattle.std.specs.Ordering.{match_ordering}
use Rattle.hh_stream.specs.Weights.{Bytes, Entry, key_cmp, weight_of, total_of}

-- a finite map from keys to positive numbers, as its entries by rising key
abbrev pub Counters : Type 0
Counters = List Entry

pub record IsCounters (c : Counters) : Type 0 where
  pub rising : IsStrictlySortedBy key_cmp (keys_of c)
  pub positive : AllByRecursion (λ e. 0 < e.1) c

-- with e's number added at e's key
abbrev pub add_at : Counters → Entry → Counters
add_at [] e = e ∷ []
add_at (d ∷ c) e = match_ordering (key_cmp e.0 d.0) (e ∷ d ∷ c) ((d.0, d.1 + e.1) ∷ c) (d ∷ add_at c e)

-- the exact weight of each key that comes in xs, by rising key
unfoldable pub tally : List Entry → Counters
tally xs = fold add_at [] xs

-- c + d, key by key
abbrev pub plus : Counters → Counters → Counters
plus c d = tally (c ++ d)

abbrev pub exceeds : ℕ → Entry → Bool
exceeds t e = nat_lt t e.1

-- how many counters exceed t
abbrev pub over : Counters → ℕ → ℕ
over c t = count_by (exceeds t) c

-- the least t such that at most k counters exceed t
pub record IsLevel (c : Counters) (k t : ℕ) : Type 0 where
  pub at_most : over c t ≤ k
  pub least : (s : ℕ) → over c s ≤ k → t ≤ s

-- the least of d and those of ns that pass
abbrev pub least_passing : (ℕ → Bool) → ℕ → List ℕ → ℕ
least_passing p d [] = d
least_passing p d (n ∷ ns) = cond (p n) (min n (least_passing p d ns)) (least_passing p d ns)

-- the level, computed: it is 0 or a counter
unfoldable pub level : Counters → ℕ → ℕ
level c k = least_passing (λ t. nat_le (over c t) k) (total_of c) (0 ∷ values_of c)

abbrev pub less_by : ℕ → Entry → Entry
less_by t e = (e.0, e.1 - t)

-- each counter less t; only the positive ones are kept
unfoldable pub lower : ℕ → Counters → Counters
lower t c = map (less_by t) (filter (exceeds t) c)

-- the least counter, and 0 where there is none
abbrev pub least_counter : Counters → ℕ
least_counter [] = 0
least_counter (e ∷ c) = fold (λ n d. min n d.1) e.1 c

abbrev pub cut : Counters → ℕ → Counters
cut c k = lower (level c k) c

abbrev pub join : Counters → Counters → ℕ → Counters
join c d k = cut (plus c d) k

-- the counters of Misra and Gries: item by item, each item's own counter is joined
unfoldable pub misra_gries : List Entry → ℕ → Counters
misra_gries xs k = fold (λ c e. join c (e ∷ []) k) [] xs

-- c and the total m tell of the items xs what a summary with k counters must. `near` says
-- (k + 1) * (weight_of x xs - weight_of x c) ≤ m - total_of c, with no subtraction that could stop at 0
pub record IsHonest (c : Counters) (m : ℕ) (xs : List Entry) (k : ℕ) : Type 0 where
  pub counters : IsCounters c
  pub counted : m ≡ total_of xs
  pub few : length c ≤ k
  pub below : (x : Bytes) → weight_of x c ≤ weight_of x xs
  pub near : (x : Bytes) → (k + 1) * weight_of x xs + total_of c ≤ m + (k + 1) * weight_of x c

-- how far a counter may be below its key's weight
abbrev pub slack : Counters → ℕ → ℕ → ℕ
slack c m k = (m - total_of c) / (k + 1)

-- what a contract sees of a summary
pub record SummaryView : Type 0 where
  pub k : ℕ
  pub total : ℕ
  pub counters : Counters

-- the largest k
abbrev pub max_k : ℕ
max_k = 65535

-- the numbers and entries of a summary
pub record Fits (k n : ℕ) (c : Counters) : Type 0 where
  pub some : 1 ≤ k
  pub bounded_k : k ≤ max_k
  pub bounded_total : n < 2 ^ 63
  pub few : length c ≤ k
  pub entries : IsCounters c
  pub within : total_of c ≤ n

-- a summary after one more item, and after another summary with the same k
abbrev pub sketch_with : SummaryView → Entry → SummaryView
sketch_with s e = record { k = s.k; total = s.total + e.1; counters = join s.counters (e ∷ []) s.k }

abbrev pub merge_of : SummaryView → SummaryView → SummaryView
merge_of s t = record { k = s.k; total = s.total + t.total; counters = join s.counters t.counters s.k }

-- the summary of a stream
abbrev pub sketch_of : ℕ → List Entry → SummaryView
sketch_of k xs = record { k = k; total = total_of xs; counters = misra_gries xs k }
