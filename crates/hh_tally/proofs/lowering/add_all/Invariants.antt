use Rattle.std.proofs.Common.{◌≡◌, ◌+◌, ◌≤◌, length, take, fold}
use Rattle.hh_tally.specs.Tallies.{add_in}
use Rattle.hh_tally.proofs.lowering.add_all.Given as goal

abbrev pub invariant-loop-i : goal.invariant-loop-i
invariant-loop-i l = (l.index.entries ≡ fold add_in l.initial.index.entries (take l.i l.others.entries))
    × (length l.index.entries ≤ length l.initial.index.entries + l.i)
