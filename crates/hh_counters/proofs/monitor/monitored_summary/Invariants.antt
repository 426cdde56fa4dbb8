use Rattle.std.proofs.Common.{◌≡◌, ◌<◌, take, All}
use Rattle.hh_stream.specs.Weights.{Entry}
use Rattle.hh_counters.specs.SpaceSaving.{monitor_of}
use Rattle.hh_counters.proofs.monitor.monitored_summary.Given as goal

abbrev pub invariant-loop-item : goal.invariant-loop-item
invariant-loop-item g l =
    (g.M.Monitor.seen l.monitor ≡ monitor_of (g.M.Monitor.seen l.fn.monitor).k (take l.item-index l.items))
    × All (λ (e : Entry). 0 < e.1) (take l.item-index l.items)
