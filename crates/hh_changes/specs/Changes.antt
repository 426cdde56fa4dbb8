-- How the weights of keys have changed between two streams, as far as the summaries of both tell.
use Rattle.std.specs.Prelude.{◌+◌, ◌-◌, ◌≤◌, ◌||◌, max, nat_lt, ℕ, Bool, List, filter, map}
use Rattle.std.specs.Map.{keys_of}
use Rattle.hh_stream.specs.Weights.{Bytes, Entry}
use Rattle.hh_summaries.specs.Counters.{SummaryView, plus}
use Rattle.hh_summaries.specs.Report.{by_rank}
use Rattle.hh_commands.specs.Bounds.{bounds_of}

-- the first number less the second
abbrev pub Difference : Type 0
Difference = ℕ × ℕ

-- one difference is at most another
abbrev pub IsAtMost : Difference → Difference → Type 0
IsAtMost d e = d.0 + e.1 ≤ e.0 + d.1

-- the least and the greatest change of a number that was within the bounds `old`, and is within the bounds `new`
abbrev pub least : ℕ × ℕ → ℕ × ℕ → Difference
least old new = (new.0, old.1)

abbrev pub greatest : ℕ × ℕ → ℕ × ℕ → Difference
greatest old new = (new.1, old.0)

-- how far each change between these two is from 0; where one is 0, that is 0
abbrev pub sure : ℕ × ℕ → ℕ × ℕ → ℕ
sure old new = max (new.0 - old.1) (old.0 - new.1)

-- the summary of an older stream, and that of a newer one
pub record Pair : Type 0 where
  pub old : SummaryView
  pub new : SummaryView

-- a key, with how far the change of its weight is from 0
abbrev pub sure_change : Pair → Bytes → Entry
sure_change p x = (x, sure (bounds_of p.old x) (bounds_of p.new x))

-- whether it is listed: where not all are, the change is surely not 0
abbrev pub is_listed : Bool → Entry → Bool
is_listed all e = all || nat_lt 0 e.1

-- those of some keys that are listed
abbrev pub listed : Bool → Pair → List Bytes → List Entry
listed all p ks = filter (is_listed all) (map (sure_change p) ks)

-- the keys with a counter in either summary, by rising key
abbrev pub keys_in : Pair → List Bytes
keys_in p = keys_of (plus p.old.counters p.new.counters)

-- those that are listed, by falling distance of the change from 0, and then by rising key
abbrev pub changes_in : Bool → Pair → List Entry
changes_in all p = by_rank (listed all p (keys_in p))
