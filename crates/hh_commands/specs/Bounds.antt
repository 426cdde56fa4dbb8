-- The bounds that a summary has for its keys, and the keys whose weights are outside them.
use Rattle.std.specs.Prelude.{◌≡◌, ◌+◌, ◌<◌, ◌≤◌, ◌⊎◌, ℕ, Bool, IsTrue, List, All, Contains, MatchOption, Option, Some, Ok}
use Rattle.std.specs.Map.{keys_of}
use Rattle.hh_stream.specs.Weights.{Bytes, Entry, weight_of}
use Rattle.hh_summaries.specs.Counters.{SummaryView, slack}
use Rattle.hh_records.specs.Streams.{Known, ReadsAs}
use Rattle.hh_commands.specs.Files.{HoldsSummary}
use Rattle.hh_commands.specs.declared.compared.Bounds.{Bounds}
use Rattle.hh_commands.specs.declared.compared.Bounds.TheVariants as bounds
use Rattle.hh_commands.specs.declared.compared.Outside.{Outside}

-- what a key weighs in the stream of a summary: at least the first number, and at most the second
abbrev pub bounds_of : SummaryView → Bytes → ℕ × ℕ
bounds_of s x = (weight_of x s.counters, weight_of x s.counters + slack s.counters s.total s.k)

-- a weight is within those bounds that are compared
abbrev pub IsWithin : Bounds → ℕ × ℕ → ℕ → Type 0
IsWithin bounds.Both b n = (b.0 ≤ n) × (n ≤ b.1)
IsWithin bounds.High b n = n ≤ b.1

-- a weight is outside them
abbrev pub IsBeyond : Bounds → ℕ × ℕ → ℕ → Type 0
IsBeyond bounds.Both b n = (n < b.0) ⊎ (b.1 < n)
IsBeyond bounds.High b n = b.1 < n

-- no key of the summary is outside its bounds in the items
abbrev pub AreWithin : Bounds → SummaryView → List Entry → Type 0
AreWithin b s xs = All (λ x. IsWithin b (bounds_of s x) (weight_of x xs)) (keys_of s.counters)

-- this is a key of the summary, and its weight in the items is outside its bounds
pub record IsOutside (b : Bounds) (s : SummaryView) (xs : List Entry) (o : Outside) : Type 0 where
  pub known : Contains (keys_of s.counters) o.key
  pub weight : o.weight ≡ weight_of o.key xs
  pub bounds : (o.low, o.high) ≡ bounds_of s o.key
  pub beyond : IsBeyond b (o.low, o.high) o.weight

-- no key is outside its bounds in the items, or where that refuses nothing, such a key is named, if there is one
abbrev pub TellsOutside : Bool → Bounds → SummaryView → List Entry → Option Outside → Type 0
TellsOutside refuses b s xs outside =
    MatchOption outside (AreWithin b s xs) (λ o. (IsTrue refuses → ⊥) × IsOutside b s xs o)

-- so it is with the summary of a file and the stream that the records are
abbrev pub ComparesBounds : Bool → Bounds → List ℕ → Known → Option Outside → Type 0
ComparesBounds refuses b file known outside =
    (s : SummaryView) × (xs : List Entry) × HoldsSummary file s × ReadsAs known (Ok xs)
    × TellsOutside refuses b s xs outside

-- a refusal tells a key that is outside its bounds
abbrev pub RefusesOutside : Bounds → List ℕ → Known → Option Outside → Type 0
RefusesOutside b file known outside =
    (s : SummaryView) × (xs : List Entry) × (o : Outside) × HoldsSummary file s × ReadsAs known (Ok xs)
    × (outside ≡ Some o) × IsOutside b s xs o
