-- The greatest keys of a list of items.
use Rattle.std.specs.Prelude.{◌≡◌, ℕ, ◌+◌, ◌-◌, ◌*◌, ◌<◌, ◌≤◌, ⊤, Bool, true, nat_lt, List, filter, length, max, take, Contains}
use Rattle.std.specs.List.Sorted.{IsStrictlySortedBy}
use Rattle.std.specs.Ordering.{is_lt}
use Rattle.hh_stream.specs.Weights.{Bytes, Entry, total_of, weight_of}
use Rattle.hh_summaries.specs.Counters.{Counters, exceeds, level, tally}
use Rattle.hh_summaries.specs.Report.{by_rank, rank_cmp}
use Rattle.hh_tally.specs.Tallies.{TallyView, unsure_of}
use Rattle.hh_faults.specs.declared.error.ToolError.{ToolError}
use Rattle.hh_faults.specs.declared.error.ToolError.TheVariants as tool

-- those of the entries that exceed t, by falling weight and then by rising key
abbrev pub rows_over : ℕ → List Entry → List Entry
rows_over t es = by_rank (filter (exceeds t) es)

-- all keys that weigh something, with their weights, by falling weight and then by rising key
abbrev pub ranking : List Entry → List Entry
ranking xs = rows_over 0 (tally xs)

-- the n greatest keys with their weights: the first n of all
abbrev pub top : ℕ → List Entry → List Entry
top n xs = take n (ranking xs)

-- these are the n greatest keys of xs: each with its weight, in order; what comes before one of them is one of them; and
-- where they are fewer than n, they are all keys
pub record IsTop (xs : List Entry) (n : ℕ) (es : List Entry) : Type 0 where
  pub ranked : IsStrictlySortedBy rank_cmp es
  pub exact : (e : Entry) → Contains es e → (e.1 ≡ weight_of e.0 xs) × (0 < e.1)
  pub greatest : (d e : Entry) → Contains es e → d.1 ≡ weight_of d.0 xs → is_lt (rank_cmp d e) ≡ true → Contains es d
  pub few : length es ≤ n
  pub all : length es < n → (x : Bytes) → 0 < weight_of x xs → Contains es (x, weight_of x xs)

-- what a contract sees of a shortlist: how many of the greatest keys are looked for, how many are counted at most, and the
-- tally that tells of them
pub record ShortlistView : Type 0 where
  pub n : ℕ
  pub k : ℕ
  pub tally : TallyView

-- the n-th greatest counter of a tally, and 0 where it has fewer
abbrev pub nth_counter : ℕ → TallyView → ℕ
nth_counter n t = level t.counters (n - 1)

-- the most that a key can weigh that isn't counted, where k keys are: it has no counter, or one of the others
abbrev pub most_uncounted : ℕ → TallyView → ℕ
most_uncounted k t = t.lost + level t.counters k

-- whether n counters are above that, so that the n greatest keys are among those that are counted
abbrev pub stand_out : ShortlistView → Bool
stand_out list = nat_lt (most_uncounted list.k list.tally) (nth_counter list.n list.tally)

-- a weight from which on the n greatest keys are looked for, less one: what a key can weigh that isn't counted, or less
-- than the n-th greatest counter
abbrev pub floor_of : ShortlistView → ℕ
floor_of list = max (most_uncounted list.k list.tally) (nth_counter list.n list.tally - 1)

-- the counters of the keys that can weigh more than that, at most k of them, by rising key
abbrev pub chosen_of : ShortlistView → Counters
chosen_of list = filter (exceeds (floor_of list - list.tally.lost)) (tally list.tally.counters)

-- those of them that have to be counted, since the tally isn't sure of their keys
abbrev pub counted_of : ShortlistView → Counters
counted_of list = unsure_of list.tally (chosen_of list)

-- of the n greatest keys only the first are certain, fewer than n: just these weigh more than `most`, which is more than 0
-- and at most what k counters leave open
pub record IsUncertain (xs : List Entry) (n k certain most : ℕ) : Type 0 where
  pub few : certain < n
  pub some : 0 < most
  pub counted : certain ≡ length (rows_over most (tally xs))
  pub little : (k + 1) * most ≤ total_of xs

-- what a refusal of the n greatest keys tells, where at most k keys were counted
abbrev pub GreatestRefused : List Entry → ℕ → ℕ → ToolError → Type 0
GreatestRefused xs n k (tool.TopUncertain certain most) = IsUncertain xs n k certain most
GreatestRefused xs n k tool.Memory = ⊤
GreatestRefused xs n k _ = ⊥

-- a refusal of the greatest keys is one of these, whatever was counted
abbrev pub IsTopFault : ToolError → Type 0
IsTopFault (tool.TopUncertain certain most) = ⊤
IsTopFault tool.Memory = ⊤
IsTopFault _ = ⊥
