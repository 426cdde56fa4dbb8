-- Keys in buckets by counters that they had: an ordered set of pairs of a counter and a key. The bucket of a counter is
-- the pairs that have it.
use Rattle.std.specs.Prelude.{◌≡◌, ℕ, ◌<◌, ◌≤◌, Bool, ◌&&◌, ◌==◌, nat_lt, List, Some, IsTrue, IfSome, slice_get}
use Rattle.std.specs.Ordering.{nat_cmp, ordering_then}
use Rattle.std.specs.declared.cmp.Ordering.{Ordering}
use Rattle.std.specs.List.{IsDistinct}
use Rattle.std.specs.Map.{keys_of, lookup}
use Rattle.std.specs.BTreeSet.{BTreeSet, IsLowerBound, contains}
use Rattle.hh_stream.specs.Weights.{Bytes, Entry, key_cmp, same_key, weight_of}
use Rattle.hh_summaries.specs.Counters.{tally}
use Rattle.hh_counters.specs.SpaceSaving.{IsMonitor, step}

abbrev pub Buckets : Type 0
Buckets = BTreeSet (ℕ × Bytes)

-- by rising counter, and then by rising key
abbrev pub by_counter : ℕ × Bytes → ℕ × Bytes → Ordering
by_counter x y = ordering_then (nat_cmp x.0 y.0) (key_cmp x.1 y.1)

-- whether the key q is in the bucket of n
abbrev pub is_in : Buckets → ℕ → Bytes → Bool
is_in b n q = contains by_counter b (n, q)

-- the entries of an index, in any order, and buckets of the same keys: each is in that of the number f of it alone,
-- which is at most its counter
pub record AreBoundedBy (f : Bytes → ℕ) (es : List Entry) (b : Buckets) : Type 0 where
  pub distinct : IsDistinct same_key (keys_of es)
  pub positive : (q : Bytes) → IfSome (lookup (same_key q) es) (λ m. 0 < m)
  pub below : (q : Bytes) → (f q ≤ weight_of q (tally es)) × (0 < weight_of q (tally es) → 0 < f q)
  pub agree : (n : ℕ) (q : Bytes) → is_in b n q ≡ (nat_lt 0 n && (f q == n))

-- each key is in the bucket of its counter or in one of a lower number
abbrev pub BoundCounters : List Entry → Buckets → Type 0
BoundCounters es b = (f : Bytes → ℕ) × AreBoundedBy f es b

-- an index and buckets of the same monitored keys
pub record IsLinked (k n : ℕ) (es : List Entry) (b : Buckets) : Type 0 where
  pub monitor : IsMonitor k n (tally es)
  pub bounds : BoundCounters es b

-- what an item leaves of both parts
pub record IsTakenIn (k : ℕ) (es fs : List Entry) (b : Buckets) (e : Entry) : Type 0 where
  pub step_is : tally fs ≡ step (tally es) e k
  pub bounds : BoundCounters fs b

-- x is the first key of the first bucket, which is that of its counter n
pub record IsFreshFirst (es : List Entry) (b : Buckets) (n : ℕ) (x : Bytes) : Type 0 where
  pub first : slice_get b.keys 0 ≡ Some (n, x)
  pub there : IsTrue (is_in b n x)
  pub lowest : IsLowerBound by_counter b (n, x)
  pub counter : weight_of x (tally es) ≡ n

abbrev pub HasFreshFirst : List Entry → Buckets → ℕ → Type 0
HasFreshFirst es b n = (x : Bytes) × IsFreshFirst es b n x
