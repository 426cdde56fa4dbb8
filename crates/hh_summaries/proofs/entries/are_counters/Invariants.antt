use Rattle.std.proofs.Common.{◌≡◌, ℕ, ◌+◌, ◌<◌, Less, slice_index_or}
use Rattle.hh_stream.specs.Weights.{Entry, key_cmp}
use Rattle.hh_summaries.proofs.entries.are_counters.Given as goal

abbrev pub invariant-loop-i : goal.invariant-loop-i
invariant-loop-i l =
    record {
      positive : (k : ℕ) (d : Entry) → k < l.i → 0 < (slice_index_or l.entries k d).1;
      rising : (k : ℕ) (d : Entry) → k + 1 < l.i → key_cmp (slice_index_or l.entries k d).0
          (slice_index_or l.entries (k + 1) d).0 ≡ Less;
    }
