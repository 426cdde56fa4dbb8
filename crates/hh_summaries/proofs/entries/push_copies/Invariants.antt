use Rattle.std.proofs.Common.{◌≡◌, ◌++◌, take}
use Rattle.hh_summaries.proofs.entries.push_copies.Given as goal

abbrev pub invariant-loop-other : goal.invariant-loop-other
invariant-loop-other l = l.entries.items ≡ l.fn.entries.items ++ take l.other-index l.others
