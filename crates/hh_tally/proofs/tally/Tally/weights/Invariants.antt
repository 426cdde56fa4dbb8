use Rattle.std.proofs.Common.{◌≡◌, List, length, take}
use Rattle.std.specs.Map.{keys_of}
use Rattle.hh_stream.specs.Weights.{Entry}
use Rattle.hh_summaries.specs.Report.{weights_at}
use Rattle.hh_tally.specs.Tallies.{AreBounds, unsure_of}
use Rattle.hh_tally.proofs.tally.Tally.weights.Given as goal

abbrev pub invariant-loop-key : goal.invariant-loop-key
invariant-loop-key l = (length l.weights.items ≡ l.key-index)
    × (l.next ≡ length (unsure_of l.self (take l.key-index l.entries)))
    × ((xs : List Entry) → AreBounds l.self xs → l.counted ≡ weights_at (keys_of (unsure_of l.self l.entries)) xs
    → l.weights.items ≡ weights_at (keys_of (take l.key-index l.entries)) xs)
