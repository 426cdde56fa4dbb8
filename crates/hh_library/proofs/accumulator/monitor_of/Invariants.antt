use Rattle.std.proofs.Common.{◌≡◌, take}
use Rattle.hh_counters.specs.SpaceSaving.{monitor_of}
use Rattle.hh_library.proofs.accumulator.monitor_of.Given as goal

-- the entries so far are seen
abbrev pub invariant-loop-i : goal.invariant-loop-i
invariant-loop-i l = l.monitor ≡ monitor_of l.summary.k (take l.i l.summary.counters)
