-- What holds of changes.
use Rattle.std.specs.Prelude.{◌≡◌, ◌+◌, ◌*◌, ◌<◌, ◌≤◌, ◌↔◌, ◌⊎◌, ℕ, Bool, IsTrue, List, Contains}
use Rattle.hh_stream.specs.Weights.{Bytes, Entry, weight_of}
use Rattle.hh_summaries.specs.Counters.{IsCounters, IsHonest, SummaryView}
use Rattle.hh_commands.specs.Bounds.{bounds_of}
use Rattle.hh_changes.specs.Changes.{Difference, IsAtMost, Pair, changes_in, greatest, is_listed, least, sure_change}
use Rattle.hh_changes.specs.Printed.{share_less, whole}

-- a difference lies between two others
abbrev pub IsBetween : Difference → Difference → Difference → Type 0
IsBetween least d greatest = IsAtMost least d × IsAtMost d greatest

-- a difference lies between the bounds of the change of a key's weight
abbrev pub IsChange : Pair → Bytes → Difference → Type 0
IsChange p x d =
    let old = bounds_of p.old x in
    let new = bounds_of p.new x in
    IsBetween (least old new) d (greatest old new)

-- a summary is honest for a stream
abbrev pub IsHonestFor : List Entry → SummaryView → Type 0
IsHonestFor xs s = IsHonest s.counters s.total xs s.k

-- the change of each key's weight is within the bounds, also that of a key with no counter
abbrev pub ChangesAreWithin : Type 0
ChangesAreWithin =
    (p : Pair) (xs ys : List Entry) → IsHonestFor xs p.old → IsHonestFor ys p.new → (x : Bytes)
    → IsChange p x (weight_of x ys, weight_of x xs)

-- the change of each key may be 0 by the bounds, or the key is listed
abbrev pub SureChangesAreListed : Type 0
SureChangesAreListed =
    (all : Bool) (p : Pair) → IsCounters p.old.counters → IsCounters p.new.counters → (x : Bytes)
    → IsChange p x (0, 0) ⊎ Contains (changes_in all p) (sure_change p x)

-- those that are listed are the keys with a counter in either summary whose change passes, and no others
abbrev pub ChangesAreExact : Type 0
ChangesAreExact =
    (all : Bool) (p : Pair) → IsCounters p.old.counters → IsCounters p.new.counters → (e : Entry)
    → Contains (changes_in all p) e
    ↔ ((e ≡ sure_change p e.0) × (0 < weight_of e.0 p.old.counters + weight_of e.0 p.new.counters)
    × IsTrue (is_listed all e))

-- a share less another is rounded down to millionths: n weighs part of the whole N, and m part of M, and n / N - m / M is
-- at least that, and less than that and one more
abbrev pub SharesAreRoundedOutward : Type 0
SharesAreRoundedOutward =
    (a b : ℕ × ℕ) → a.1 ≤ a.0 → b.1 ≤ b.0
    → let d = share_less a b in
    let both = whole a.0 * whole b.0 in
    (d.0 * both + b.1 * 1000000 * whole a.0 ≤ a.1 * 1000000 * whole b.0 + d.1 * both)
    × (a.1 * 1000000 * whole b.0 + d.1 * both < (d.0 + 1) * both + b.1 * 1000000 * whole a.0)
