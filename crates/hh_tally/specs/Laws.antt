-- What tallies tell of the items that they took.
use Rattle.std.specs.Prelude.{◌≡◌, List, [], ◌++◌, fold}
use Rattle.hh_stream.specs.Weights.{Bytes, Entry, total_of, weight_of}
use Rattle.hh_tally.specs.Tallies.{TallyView, AreBounds, empty_tally, merged_tally, tally_with}
use Rattle.hh_tally.specs.declared.room.Room.{Room}

-- the tally of no items tells of none, and one that tells of some items tells of those that it takes after them too
abbrev pub BoundsFollow : Type 0
BoundsFollow =
    ((room : Room) → AreBounds (empty_tally room) [])
    × ((t : TallyView) (xs ys : List Entry) → AreBounds t xs → AreBounds (fold tally_with t ys) (xs ++ ys))

-- merged tallies tell of the items of both
abbrev pub BoundsMerge : Type 0
BoundsMerge =
    (t u : TallyView) (xs ys : List Entry) → AreBounds t xs → AreBounds u ys → AreBounds (merged_tally t u) (xs ++ ys)

-- they tell of weights alone, and so not of the order of the items
abbrev pub OrderIsFree : Type 0
OrderIsFree =
    (t : TallyView) (xs ys : List Entry) → total_of xs ≡ total_of ys
    → ((x : Bytes) → weight_of x xs ≡ weight_of x ys) → AreBounds t xs → AreBounds t ys

-- where nothing was lost the counters are the weights
abbrev pub NoLossIsExact : Type 0
NoLossIsExact =
    (t : TallyView) (xs : List Entry) → AreBounds t xs → t.lost ≡ 0 → (x : Bytes)
    → weight_of x t.counters ≡ weight_of x xs
