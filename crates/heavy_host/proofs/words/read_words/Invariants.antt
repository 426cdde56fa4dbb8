-- The words so far are those of the source, each at its number.
use Rattle.std.proofs.Common.{◌≡◌, ◌<◌, ℕ, Some, [], length, map, slice_index_or}
use Rattle.heavy_host.proofs.words.read_words.Given as goal

abbrev pub invariant-loop-number : goal.invariant-loop-number
invariant-loop-number g l = record {
  count : l.number ≡ length (map (λ w. w.items) l.words.items);
  each : (k : ℕ) → k < length (map (λ w. w.items) l.words.items)
      → g.W.WordSource.gives l.source k (Some (slice_index_or (map (λ w. w.items) l.words.items) k []));
}
