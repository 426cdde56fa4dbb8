-- Space-Saving (Metwally, Agrawal and El Abbadi 2005, here with weights): k + 1 counters, a newcomer takes the least.
use Rattle.std.specs.Prelude.{◌≡◌, ℕ, ◌+◌, ◌^◌, ◌<◌, ◌≤◌, not, ◌||◌, ◌==◌, if◌then◌else◌, nat_lt, nat_le, List, [], ◌∷◌, length, slice_index_or, filter, fold}
use Rattle.hh_stream.specs.Weights.{Bytes, Entry, same_key, weight_of, total_of}
use Rattle.hh_summaries.specs.Counters.{max_k, Counters, IsCounters, add_at, lower, least_counter, SummaryView}

-- 0 where one of the k + 1 counters is free, else the least
abbrev pub least_of : Counters → ℕ → ℕ
least_of s k = if nat_le (length s) k then 0 else least_counter s

-- each counter less the least; zeros are dropped
abbrev pub translate : Counters → ℕ → Counters
translate s k = lower (least_of s k) s

-- s without the counter of y
abbrev pub without : Counters → Bytes → Counters
without s y = filter (λ e. not (same_key y e.0)) s

-- y has a counter, and none is less
pub record HasLeast (s : Counters) (y : Bytes) : Type 0 where
  pub has : 0 < weight_of y s
  pub least : weight_of y s ≡ least_counter s

-- the item e takes the counters s to t
pub data IsStep (s : Counters) (e : Entry) (k : ℕ) (t : Counters) : Type 0 where
  -- its key has a counter
  raised : 0 < weight_of e.0 s → t ≡ add_at s e → IsStep s e k t
  -- a counter is free
  entered : weight_of e.0 s ≡ 0 → length s ≤ k → t ≡ add_at s e → IsStep s e k t
  -- some key with the least counter, any of several, is dropped, and e's key takes its counter over
  replaced : weight_of e.0 s ≡ 0 → k < length s → (y : Bytes) → HasLeast s y
      → t ≡ add_at (without s y) (e.0, weight_of y s + e.1) → IsStep s e k t

-- steps by the items lead from s to t
abbrev pub IsRunFrom : Counters → List Entry → ℕ → Counters → Type 0
IsRunFrom s [] k t = s ≡ t
IsRunFrom s (e ∷ xs) k t = (u : Counters) × IsStep s e k u × IsRunFrom u xs k t

-- steps by the items lead from no counters to s
abbrev pub IsRun : List Entry → ℕ → Counters → Type 0
IsRun xs k s = IsRunFrom [] xs k s

-- the first key, by rising key, that has the counter n
abbrev pub first_with : ℕ → Counters → Bytes
first_with n [] = []
first_with n (e ∷ s) = if e.1 == n then e.0 else first_with n s

-- the product's choice: of the keys with the least counter the least
abbrev pub key_to_drop : Counters → Bytes
key_to_drop s = first_with (least_counter s) s

-- that key is dropped, and e's key takes its counter over
abbrev pub taken_over : Counters → Entry → Counters
taken_over s e = add_at (without s (key_to_drop s)) (e.0, least_counter s + e.1)

-- the product's step, which is one of the relation's
abbrev pub step : Counters → Entry → ℕ → Counters
step s e k = if nat_lt 0 (weight_of e.0 s) || nat_le (length s) k then add_at s e else taken_over s e

-- the counters after the items, by the product's steps
abbrev pub space_saving : List Entry → ℕ → Counters
space_saving xs k = fold (λ s e. step s e k) [] xs

-- k is 1 to 65,535, there are at most k + 1 counters, and they add up to the total n
pub record IsMonitor (k n : ℕ) (s : Counters) : Type 0 where
  pub some : 1 ≤ k
  pub bounded_k : k ≤ max_k
  pub bounded_total : n < 2 ^ 63
  pub few : length s ≤ k + 1
  pub entries : IsCounters s
  pub sum_is : total_of s ≡ n

-- after one more item
abbrev pub monitor_with : SummaryView → Entry → SummaryView
monitor_with s e = record { k = s.k; total = s.total + e.1; counters = step s.counters e s.k }

-- the summary of Misra and Gries that it is translated to
abbrev pub translation_of : SummaryView → SummaryView
translation_of s = record { k = s.k; total = s.total; counters = translate s.counters s.k }

-- the least counter stands at the place i, and at none before it
pub record IsFirstLeast (s : Counters) (i : ℕ) : Type 0 where
  pub in_range : i < length s
  pub no_less : (j : ℕ) (d : Entry) → j < length s → (slice_index_or s i d).1 ≤ (slice_index_or s j d).1
  pub first : (j : ℕ) (d : Entry) → j < i → (slice_index_or s i d).1 < (slice_index_or s j d).1

-- what a monitor shows after the items
abbrev pub monitor_of : ℕ → List Entry → SummaryView
monitor_of k xs = record { k = k; total = total_of xs; counters = space_saving xs k }
