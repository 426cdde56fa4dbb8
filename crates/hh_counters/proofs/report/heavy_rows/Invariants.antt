use Rattle.std.proofs.Common.{◌≡◌, take, filter, zip}
use Rattle.hh_summaries.specs.Report.{is_heavy}
use Rattle.hh_counters.proofs.report.heavy_rows.Given as goal

abbrev pub invariant-loop-i : goal.invariant-loop-i
invariant-loop-i l = l.rows.items ≡ filter (is_heavy l.p l.q l.total) (take l.i (zip l.keys l.numbers))
