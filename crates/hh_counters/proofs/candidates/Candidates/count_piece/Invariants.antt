use Rattle.std.proofs.Common.{◌≡◌, take}
use Rattle.hh_summaries.specs.Report.{counts_with}
use Rattle.hh_counters.proofs.candidates.Candidates.count_piece.Given as goal

abbrev pub invariant-loop-item : goal.invariant-loop-item
invariant-loop-item l = l.numbers ≡ counts_with l.self (take l.item-index l.items) l.fn.numbers
