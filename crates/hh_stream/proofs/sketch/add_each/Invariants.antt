use Rattle.std.proofs.Common.{◌≡◌, ℕ, ◌+◌, ◌<◌, ◌≤◌, get_or}
use Rattle.hh_stream.proofs.sketch.add_each.Given as goal

-- the numbers below i have the others' added, and the rest are as they were
abbrev pub invariant-loop-i : goal.invariant-loop-i
invariant-loop-i l =
    ((k : ℕ) → k < l.i → get_or l.numbers k 0 ≡ get_or l.initial.numbers k 0 + get_or l.others k 0)
    × ((k : ℕ) → l.i ≤ k → get_or l.numbers k 0 ≡ get_or l.initial.numbers k 0)
