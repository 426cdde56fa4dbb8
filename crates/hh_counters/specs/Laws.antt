-- What holds of the definitions.
use Rattle.std.specs.Prelude.{◌≡◌, ℕ, ◌+◌, ◌-◌, ◌*◌, ◌<◌, ◌≤◌, ◌↔◌, List, [], ◌∷◌, ◌++◌, All, filter, zip, length, replicate, Contains, IsPermutation}
use Rattle.std.specs.List.{AllByRecursion, flat_map}
use Rattle.std.specs.List.Sorted.{IsStrictlySortedBy}
use Rattle.std.specs.Map.{keys_of}
use Rattle.hh_stream.specs.Weights.{Bytes, Entry, IsKey, key_cmp, weight_of, total_of}
use Rattle.hh_stream.specs.Cuttings.{whole_of}
use Rattle.hh_summaries.specs.Counters.{Counters, IsCounters, exceeds, IsLevel, level, max_k, plus, join, misra_gries, IsHonest, slack, sketch_with, sketch_of}
use Rattle.hh_counters.specs.SpaceSaving.{least_of, translate, IsStep, IsRun, step, space_saving, monitor_of, monitor_with, translation_of}
use Rattle.hh_counters.specs.Counting.{count_of, count_with}
use Rattle.hh_counters.specs.Condensed.{IsFirstFree, free_name, entry_of, condensed}
use Rattle.hh_summaries.specs.Report.{heavy, rank_cmp, rows_above, weights_at, counts_with, has_counter, IsReport}

-- the counters of a stream are honest for it
abbrev pub MisraGriesIsHonest : Type 0
MisraGriesIsHonest = (xs : List Entry) (k : ℕ) → IsHonest (misra_gries xs k) (total_of xs) xs k

-- two honest summaries, joined, are honest for both lists together
abbrev pub JoinOfHonestIsHonest : Type 0
JoinOfHonestIsHonest =
    (c d : Counters) (m l : ℕ) (xs ys : List Entry) (k : ℕ) → IsHonest c m xs k → IsHonest d l ys k
    → IsHonest (join c d k) (m + l) (xs ++ ys) k

-- each key above p/q of the total has a counter
abbrev pub HeavyKeysHaveCounters : Type 0
HeavyKeysHaveCounters =
    (c : Counters) (xs : List Entry) (k p q : ℕ) → IsHonest c (total_of xs) xs k → q ≤ p * (k + 1) → (e : Entry)
    → Contains (heavy xs p q) e → 0 < weight_of e.0 c

-- a counter is at most its key's weight, and at most the slack below it
abbrev pub CountersBoundWeights : Type 0
CountersBoundWeights =
    (c : Counters) (xs : List Entry) (k : ℕ) → IsHonest c (total_of xs) xs k → (x : Bytes)
    → (weight_of x c ≤ weight_of x xs) × (weight_of x xs ≤ weight_of x c + slack c (total_of xs) k)

-- the computed level is the least such number, and no other number is
abbrev pub LevelIsLeast : Type 0
LevelIsLeast = (c : Counters) (k t : ℕ) → IsLevel c k (level c k) × (IsLevel c k t → t ≡ level c k)

-- the sum is the finite map with both numbers at each key, and no other is
abbrev pub SumIsByKey : Type 0
SumIsByKey =
    (c d : Counters) → IsCounters c → IsCounters d → IsCounters (plus c d)
    × ((x : Bytes) → weight_of x (plus c d) ≡ weight_of x c + weight_of x d)
    × ((s : Counters) → IsCounters s → ((x : Bytes) → weight_of x s ≡ weight_of x c + weight_of x d) → s ≡ plus c d)

-- what a join leaves is a finite map with each number less the level
abbrev pub JoinTakesTheLevel : Type 0
JoinTakesTheLevel =
    (c d : Counters) (k : ℕ) → IsCounters (join c d k)
    × ((x : Bytes) → weight_of x (join c d k) ≡ weight_of x c + weight_of x d - level (plus c d) k)

-- the report is exact and in order
abbrev pub ReportIsExact : Type 0
ReportIsExact = (xs : List Entry) (p q : ℕ) → IsReport xs p q (heavy xs p q)

-- what honest counters say, with subtractions that do not stop at 0
abbrev pub HonestIsNear : Type 0
HonestIsNear =
    (c : Counters) (m : ℕ) (xs : List Entry) (k : ℕ) → IsHonest c m xs k
    → (total_of c ≤ m) × ((x : Bytes) → (k + 1) * (weight_of x xs - weight_of x c) ≤ m - total_of c)

-- only the weights matter, not the order of the items
abbrev pub HonestInAnyOrder : Type 0
HonestInAnyOrder =
    (c : Counters) (m : ℕ) (xs ys : List Entry) (k : ℕ) → IsPermutation xs ys → IsHonest c m xs k → IsHonest c m ys k

-- items of which each key weighs the same have the same honest counters
abbrev pub HonestByWeights : Type 0
HonestByWeights =
    (c : Counters) (m : ℕ) (xs ys : List Entry) (k : ℕ) → ((x : Bytes) → weight_of x xs ≡ weight_of x ys)
    → IsHonest c m xs k → IsHonest c m ys k

-- two lists that say what a report must are one
abbrev pub ReportIsUnique : Type 0
ReportIsUnique = (xs : List Entry) (p q : ℕ) (es : List Entry) → IsReport xs p q es → es ≡ heavy xs p q

-- the rows above a share are the pairs of distinct keys that are above it, strictly ranked
abbrev pub RowsAreExact : Type 0
RowsAreExact =
    (p q n : ℕ) (es : List Entry) → IsStrictlySortedBy key_cmp (keys_of es)
    → IsStrictlySortedBy rank_cmp (rows_above p q n es)
    × ((e : Entry) → Contains (rows_above p q n es) e ↔ (Contains es e × (p * n < q * e.1)))

-- a second pass over the keys of counters finds the heavy keys that have a counter, and of honest counters all of them
abbrev pub CandidatesSuffice : Type 0
CandidatesSuffice =
    (c : Counters) (xs : List Entry) (k p q : ℕ)
    → (IsCounters c
    → rows_above p q (total_of xs) (zip (keys_of c) (weights_at (keys_of c) xs))
    ≡ filter (has_counter c) (heavy xs p q))
    × (IsHonest c (total_of xs) xs k → q ≤ p * (k + 1)
    → rows_above p q (total_of xs) (zip (keys_of c) (weights_at (keys_of c) xs)) ≡ heavy xs p q)

-- counting starts at 0, and pieces may be counted one after the other
abbrev pub CountsAddUp : Type 0
CountsAddUp =
    (ks : List Bytes) (xs ys : List Entry) (ns : List ℕ)
    → (counts_with ks xs (replicate (length ks) 0) ≡ weights_at ks xs)
    × (counts_with ks (xs ++ ys) ns ≡ counts_with ks ys (counts_with ks xs ns))

-- counting some more items is counting all
abbrev pub CountsFollowItems : Type 0
CountsFollowItems =
    (ks : List Bytes) (xs ys : List Entry) → count_with (count_of ks xs) ys ≡ count_of ks (xs ++ ys)

-- there is a number for each key still, and none grows by more than the items' total
abbrev pub CountsStayWithin : Type 0
CountsStayWithin =
    (ks : List Bytes) (xs : List Entry) (ns : List ℕ) (m : ℕ) → length ns ≡ length ks → All (λ n. n ≤ m) ns
    → (length (counts_with ks xs ns) ≡ length ks) × All (λ n. n ≤ m + total_of xs) (counts_with ks xs ns)

-- the counters of a run add up to the items' total
abbrev pub RunSumsToTotal : Type 0
RunSumsToTotal =
    (xs : List Entry) (k : ℕ) (s : Counters) → All (λ e. 0 < e.1) xs → IsRun xs k s → total_of s ≡ total_of xs

-- a monitored key's counter is at least its weight, and at most the least counter above it; no other key weighs more
abbrev pub RunBoundsWeights : Type 0
RunBoundsWeights =
    (xs : List Entry) (k : ℕ) (s : Counters) → All (λ e. 0 < e.1) xs → IsRun xs k s → (x : Bytes)
    → (0 < weight_of x s → (weight_of x xs ≤ weight_of x s) × (weight_of x s ≤ weight_of x xs + least_of s k))
    × (weight_of x s ≡ 0 → weight_of x xs ≤ least_of s k)

-- a run, translated, is Misra-Gries, whichever least keys were dropped
abbrev pub TranslationIsMisraGries : Type 0
TranslationIsMisraGries =
    (xs : List Entry) (k : ℕ) (s : Counters) → All (λ e. 0 < e.1) xs → IsRun xs k s → translate s k ≡ misra_gries xs k

-- the product's steps make a run
abbrev pub StepsAreARun : Type 0
StepsAreARun = (xs : List Entry) (k : ℕ) → All (λ e. 0 < e.1) xs → IsRun xs k (space_saving xs k)

-- a step more makes a run of the items with one more, whichever least keys were dropped before
abbrev pub RunsGoOn : Type 0
RunsGoOn =
    (xs : List Entry) (e : Entry) (k : ℕ) (s t : Counters) → IsRun xs k s → IsStep s e k t → IsRun (xs ++ e ∷ []) k t

-- and so does the product's step
abbrev pub RunsTakeTheStep : Type 0
RunsTakeTheStep =
    (xs : List Entry) (e : Entry) (k : ℕ) (s : Counters) → All (λ e. 0 < e.1) xs → IsRun xs k s
    → IsRun (xs ++ e ∷ []) k (step s e k)

-- the summary of no items has no counters, and an item more makes the summary of all
abbrev pub SummariesFollowItems : Type 0
SummariesFollowItems =
    (k : ℕ) (xs : List Entry) (e : Entry)
    → (sketch_of k [] ≡ record { k = k; total = 0; counters = [] })
    × (sketch_of k (xs ++ e ∷ []) ≡ sketch_with (sketch_of k xs) e)

-- so it is with a monitor, whose translation at the end is the summary of all
abbrev pub MonitorsFollowItems : Type 0
MonitorsFollowItems =
    (k : ℕ) (xs : List Entry) (e : Entry)
    → (monitor_of k [] ≡ record { k = k; total = 0; counters = [] })
    × (monitor_of k (xs ++ e ∷ []) ≡ monitor_with (monitor_of k xs) e)
    × (All (λ e. 0 < e.1) xs → translation_of (monitor_of k xs) ≡ sketch_of k xs)

-- the name of the entry for other keys is the first that has no counter, and no other name is
abbrev pub FreeNameIsFirst : Type 0
FreeNameIsFirst =
    (c : Counters) → IsFirstFree c (free_name c)
    × ((y : Bytes) → IsFirstFree c y → y ≡ free_name c)

-- the condensed entries have the total, and the weight of each key with a counter
abbrev pub CondensedKeepsWeights : Type 0
CondensedKeepsWeights =
    (c : Counters) (xs : List Entry) → (total_of (condensed c xs) ≡ total_of xs)
    × ((x : Bytes) → 0 < weight_of x c → weight_of x (condensed c xs) ≡ weight_of x xs)

-- of items with keys and weights, so are the condensed entries
abbrev pub CondensedAreItems : Type 0
CondensedAreItems =
    (c : Counters) (xs : List Entry)
    → (All (λ e. 0 < e.1) xs → All (λ e. 0 < e.1) (condensed c xs))
    × (length c ≤ max_k → AllByRecursion (λ e. IsKey e.0) xs
    → AllByRecursion (λ e. IsKey e.0) (condensed c xs))

-- of items with weights there are at most as many condensed entries as counters, and one more
abbrev pub CondensedAreFew : Type 0
CondensedAreFew =
    (c : Counters) (xs : List Entry) → IsCounters c → All (λ e. 0 < e.1) xs → length (condensed c xs) ≤ length c + 1

-- which keys with counters are heavy depends on the total and their weights alone
abbrev pub FoundByWeights : Type 0
FoundByWeights =
    (c : Counters) (xs ys : List Entry) (p q : ℕ) → total_of xs ≡ total_of ys
    → ((x : Bytes) → 0 < weight_of x c → weight_of x xs ≡ weight_of x ys)
    → filter (has_counter c) (heavy xs p q) ≡ filter (has_counter c) (heavy ys p q)

-- the condensed parts, in whatever order their entries come, have the total of the parts and say of
-- the keys with counters what the parts say
abbrev pub CondensedPartsSuffice : Type 0
CondensedPartsSuffice =
    (c : Counters) (parts : List (List Entry)) (ys : List Entry)
    → IsPermutation (flat_map (condensed c) parts) ys
    → (total_of ys ≡ total_of (whole_of parts))
    × ((p q : ℕ)
    → filter (has_counter c) (heavy ys p q) ≡ filter (has_counter c) (heavy (whole_of parts) p q))

-- with counters that are honest for the whole, in whatever order it was read, that is its report
abbrev pub CondensedPartsReport : Type 0
CondensedPartsReport =
    (c : Counters) (parts : List (List Entry)) (xs ys : List Entry) (k p q : ℕ)
    → IsPermutation (whole_of parts) xs → IsPermutation (flat_map (condensed c) parts) ys
    → IsHonest c (total_of xs) xs k → q ≤ p * (k + 1)
    → filter (has_counter c) (heavy ys p q) ≡ heavy xs p q

-- of items that have weights, the condensed entries are the keys of counters that came, each with
-- its count, and what the counts leave of the total
abbrev pub CondensedIsCounted : Type 0
CondensedIsCounted =
    (c : Counters) (xs : List Entry) → IsCounters c → All (λ e. 0 < e.1) xs
    → let counts = filter (exceeds 0) (zip (keys_of c) (weights_at (keys_of c) xs)) in
    (total_of counts ≤ total_of xs)
    × (condensed c xs ≡ counts ++ entry_of (free_name c) (total_of xs - total_of counts))
