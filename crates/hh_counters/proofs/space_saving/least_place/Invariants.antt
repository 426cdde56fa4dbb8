use Rattle.std.proofs.Common.{ℕ, ◌<◌, ◌≤◌, length, get_or}
use Rattle.hh_stream.specs.Weights.{Entry}
use Rattle.hh_counters.proofs.space_saving.least_place.Given as goal

abbrev pub invariant-loop-i : goal.invariant-loop-i
invariant-loop-i l = record {
  in_range : l.place < length l.entries;
  behind : l.place < l.i;
  no_less : (k : ℕ) (d : Entry) → k < l.i → (get_or l.entries l.place d).1 ≤ (get_or l.entries k d).1;
  first : (k : ℕ) (d : Entry) → k < l.place → (get_or l.entries l.place d).1 < (get_or l.entries k d).1;
}
